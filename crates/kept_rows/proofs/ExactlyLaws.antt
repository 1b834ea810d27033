-- Five tests in their order: which answer is given, exactly when (specs/Exactly.antt). Assumes nothing.
use mathlib.Core.Path.{◌≡◌, refl, sym, ap, ◌∙◌}
use mathlib.Core.Bool.{Bool, true, false, not, ◌||◌}
use mathlib.Core.List.{List, [], ◌∷◌}
use mathlib.Core.Option.{none, some}
use Prim.Native.Nat.{ℕ, suc, ◌/◌, ◌%◌, ◌<◌}
use native.Mathlib.Omega.{arith}
use lib.Dec.{ltb}
use lib.ListN.{length, get_or}
use borrow.Author.Tests.{lt-ltb, le-ltb, ltb-true, ltb-false}
use Rattle.laws.specs.Pick.{pick}
use Rattle.laws.proofs.Cases.{true-false, Which, which}
use Rattle.laws.proofs.Cases.Which.{holds, fails}
use Rattle.reader.specs.Store.{bad_store, no_row}
use Rattle.stores.specs.Stores.{Parsed, store_at, is_whole_ok, parse}
use Rattle.stores.specs.Coordinates.{is_row_there}
use Rattle.keeping.specs.Answers.{Kept, Done, Refused}
use Rattle.keeping.specs.Keeping.{work_short, places_short, kept_short, most_bytes, keeping_work, all_there, kept_bytes, is_too_long, done_of, last_of, keep_in, keep_parsed, keep_of}
use Rattle.keeping.proofs.ThereLaws.{there-at}
use Rattle.kept_rows.specs.Exactly.{RowsThere, Fits, Exactly}

-- ---- five tests: a, d and e refuse where they hold, b and c where they fail

abbrev five : Bool → Bool → Bool → Bool → Bool → Kept → Kept
five a b c d e x = pick a (Refused work_short) (pick b (pick (not c) (Refused no_row) (pick d (Refused places_short) (pick e (Refused kept_short) x))) (Refused bad_store))

-- the number of an answer, 0 for done
no_of : Kept → ℕ
no_of (Done b t r k) = 0
no_of (Refused n) = n

module _ (x : Kept) (z : no_of x ≡ 0) where
  five-4 : (a b c d e : Bool) → no_of (five a b c d e x) ≡ 4 → a ≡ true
  unfolding no_of
  five-4 true b c d e h = refl
  five-4 false false c d e h = absurd (omega arith)
  five-4 false true false d e h = absurd (omega arith)
  five-4 false true true true e h = absurd (omega arith)
  five-4 false true true false true h = absurd (omega arith)
  five-4 false true true false false h = absurd (omega (arith, z))

  five-20 : (a b c d e : Bool) → no_of (five a b c d e x) ≡ 20 → (a ≡ false) × (b ≡ false)
  unfolding no_of
  five-20 true b c d e h = absurd (omega arith)
  five-20 false false c d e h = (refl, refl)
  five-20 false true false d e h = absurd (omega arith)
  five-20 false true true true e h = absurd (omega arith)
  five-20 false true true false true h = absurd (omega arith)
  five-20 false true true false false h = absurd (omega (arith, z))

  five-21 : (a b c d e : Bool) → no_of (five a b c d e x) ≡ 21 → (a ≡ false) × (b ≡ true) × (c ≡ false)
  unfolding no_of
  five-21 true b c d e h = absurd (omega arith)
  five-21 false false c d e h = absurd (omega arith)
  five-21 false true false d e h = (refl, refl, refl)
  five-21 false true true true e h = absurd (omega arith)
  five-21 false true true false true h = absurd (omega arith)
  five-21 false true true false false h = absurd (omega (arith, z))

  five-73 : (a b c d e : Bool) → no_of (five a b c d e x) ≡ 73 → (a ≡ false) × (b ≡ true) × (c ≡ true) × (d ≡ true)
  unfolding no_of
  five-73 true b c d e h = absurd (omega arith)
  five-73 false false c d e h = absurd (omega arith)
  five-73 false true false d e h = absurd (omega arith)
  five-73 false true true true e h = (refl, refl, refl, refl)
  five-73 false true true false true h = absurd (omega arith)
  five-73 false true true false false h = absurd (omega (arith, z))

  five-74 : (a b c d e : Bool) → no_of (five a b c d e x) ≡ 74 → (a ≡ false) × (b ≡ true) × (c ≡ true) × (d ≡ false) × (e ≡ true)
  unfolding no_of
  five-74 true b c d e h = absurd (omega arith)
  five-74 false false c d e h = absurd (omega arith)
  five-74 false true false d e h = absurd (omega arith)
  five-74 false true true true e h = absurd (omega arith)
  five-74 false true true false true h = (refl, refl, refl, refl, refl)
  five-74 false true true false false h = absurd (omega (arith, z))

  five-0 : (a b c d e : Bool) → no_of (five a b c d e x) ≡ 0 → (a ≡ false) × (b ≡ true) × (c ≡ true) × (d ≡ false) × (e ≡ false)
  unfolding no_of
  five-0 true b c d e h = absurd (omega arith)
  five-0 false false c d e h = absurd (omega arith)
  five-0 false true false d e h = absurd (omega arith)
  five-0 false true true true e h = absurd (omega arith)
  five-0 false true true false true h = absurd (omega arith)
  five-0 false true true false false h = (refl, refl, refl, refl, refl)

-- ---- what each test says

holds-else : (b : Bool) → (b ≡ false → ⊥) → b ≡ true
holds-else true d = refl
holds-else false d = absurd (d refl)

fails-else : (b : Bool) → (b ≡ true → ⊥) → b ≡ false
fails-else true d = absurd (d refl)
fails-else false d = refl

there-all : (p : Parsed) (rows : List ℕ) → ((j : ℕ) → j < length rows → is_row_there p (get_or rows j 0 / 65536) (get_or rows j 0 % 65536) ≡ true) → all_there p rows ≡ true
unfolding all_there
there-all p [] h = refl
there-all p (x ∷ rows) h = rw (h 0 (omega arith), there-all p rows (λ j l. h (suc j) (omega arith)))

or-both : (a b : Bool) → a || b ≡ false → (a ≡ false) × (b ≡ false)
or-both true b h = absurd (true-false refl h)
or-both false b h = (refl, h)

module _ (p : Parsed) (rows : List ℕ) (room : ℕ) where
  fits-of : is_too_long room (length (kept_bytes p rows)) ≡ false → Fits p rows room
  unfolding is_too_long
  fits-of h =
      let x = or-both (ltb room (length (kept_bytes p rows))) (ltb most_bytes (length (kept_bytes p rows))) h in
      record { in-room = ltb-false room (length (kept_bytes p rows)) x.0; short = ltb-false most_bytes (length (kept_bytes p rows)) x.1 }

  of-fits : Fits p rows room → is_too_long room (length (kept_bytes p rows)) ≡ false
  unfolding is_too_long
  of-fits f = rw (le-ltb room (length (kept_bytes p rows)) f.in-room, le-ltb most_bytes (length (kept_bytes p rows)) f.short)

module _ (s rows : List ℕ) (work room places : ℕ) where
  abbrev need : ℕ
  need = keeping_work (length s) (length rows)

  abbrev p : Parsed
  p = store_at s

  abbrev t₁ : Bool
  t₁ = ltb work (keeping_work (length s) (length rows))

  abbrev t₂ : Bool
  t₂ = is_whole_ok s

  abbrev t₃ : Bool
  t₃ = all_there (store_at s) rows

  abbrev t₄ : Bool
  t₄ = ltb places (length rows)

  abbrev t₅ : Bool
  t₅ = is_too_long room (length (kept_bytes (store_at s) rows))

  abbrev x : Kept
  x = done_of (store_at s) rows

  answer-is : keep_of s rows work room places ≡ five t₁ t₂ t₃ t₄ t₅ x
  unfolding keep_of keep_parsed keep_in last_of parse
  answer-is = go (which (is_whole_ok s))
    where
      go : Which (is_whole_ok s) → pick t₁ (Refused work_short) (keep_parsed (pick (is_whole_ok s) (some p) none) rows room places) ≡ five t₁ (is_whole_ok s) t₃ t₄ t₅ x
      go (holds e) = rw e refl
      go (fails e) = rw e refl

  by : (a b c d e : Bool) → t₁ ≡ a → t₂ ≡ b → t₃ ≡ c → t₄ ≡ d → t₅ ≡ e → keep_of s rows work room places ≡ five a b c d e x
  by a b c d e h₁ h₂ h₃ h₄ h₅ = answer-is
      ∙ ap (λ (y : Bool). five y t₂ t₃ t₄ t₅ x) h₁ ∙ ap (λ (y : Bool). five a y t₃ t₄ t₅ x) h₂ ∙ ap (λ (y : Bool). five a b y t₄ t₅ x) h₃
      ∙ ap (λ (y : Bool). five a b c y t₅ x) h₄ ∙ ap (λ (y : Bool). five a b c d y x) h₅

  done-no : no_of (done_of (store_at s) rows) ≡ 0
  unfolding done_of no_of
  done-no = refl

  number : (n : ℕ) → keep_of s rows work room places ≡ Refused n → no_of (five t₁ t₂ t₃ t₄ t₅ x) ≡ n
  number n h = let y : no_of (Refused n) ≡ n = unfold no_of in refl in ap no_of (sym answer-is ∙ h) ∙ y

  number-done : keep_of s rows work room places ≡ x → no_of (five t₁ t₂ t₃ t₄ t₅ x) ≡ 0
  number-done h = ap no_of (sym answer-is ∙ h) ∙ done-no

  rows_of : t₃ ≡ true → RowsThere p rows
  rows_of h = record { there = there-at p rows h }

  of-rows : RowsThere p rows → t₃ ≡ true
  of-rows r = there-all p rows r.there

  -- THE THEOREM
  pub exactly : Exactly s rows work room places
  exactly = record {
    work-short = (λ h. ltb-true work need (five-4 x done-no t₁ t₂ t₃ t₄ t₅ (number 4 h)), λ l. by true t₂ t₃ t₄ t₅ (lt-ltb work need l) refl refl refl refl);
    bad-store = (
      λ h. let y = five-20 x done-no t₁ t₂ t₃ t₄ t₅ (number 20 h) in (ltb-false work need y.0, λ w. true-false w y.1),
      λ y. by false false t₃ t₄ t₅ (le-ltb work need y.0) (fails-else t₂ y.1) refl refl refl,
    );
    no-row = (
      λ h. let y = five-21 x done-no t₁ t₂ t₃ t₄ t₅ (number 21 h) in (ltb-false work need y.0, y.1, λ r. true-false (of-rows r) y.2),
      λ y. by false true false t₄ t₅ (le-ltb work need y.0) y.1 (fails-else t₃ (λ h. y.2 (rows_of h))) refl refl,
    );
    places-short = (
      λ h. let y = five-73 x done-no t₁ t₂ t₃ t₄ t₅ (number 73 h) in (ltb-false work need y.0, y.1, rows_of y.2, ltb-true places (length rows) y.3),
      λ y. by false true true true t₅ (le-ltb work need y.0) y.1 (of-rows y.2) (lt-ltb places (length rows) y.3) refl,
    );
    kept-short = (
      λ h. let y = five-74 x done-no t₁ t₂ t₃ t₄ t₅ (number 74 h) in
          (ltb-false work need y.0, y.1, rows_of y.2, ltb-false places (length rows) y.3, λ f. true-false y.4 (of-fits p rows room f)),
      λ y. by false true true false true (le-ltb work need y.0) y.1 (of-rows y.2) (le-ltb places (length rows) y.3) (holds-else t₅ (λ h. y.4 (fits-of p rows room h))),
    );
    done = (
      λ h. let y = five-0 x done-no t₁ t₂ t₃ t₄ t₅ (number-done h) in
          (ltb-false work need y.0, y.1, rows_of y.2, ltb-false places (length rows) y.3, fits-of p rows room y.4),
      λ y. by false true true false false (le-ltb work need y.0) y.1 (of-rows y.2) (le-ltb places (length rows) y.3) (of-fits p rows room y.4),
    );
  }
