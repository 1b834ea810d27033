-- The tests of a call one after the other, and the work that it leaves. Assumes nothing.
use mathlib.Core.Path.{◌≡◌, refl, sym, ap, ◌∙◌}
use mathlib.Core.Bool.{true, false}
use mathlib.Core.List.{List}
use mathlib.Core.Option.{Option, none, some}
use Prim.Native.Nat.{ℕ, ◌≤◌, ◌<◌}
use native.Mathlib.Omega.{arith}
use lib.ListN.{length, get_or, replicate}
use borrow.Author.Tests.{lt-ltb, le-ltb}
use Rattle.laws.proofs.Cases.{Which, which}
use Rattle.laws.proofs.Cases.Which.{holds, fails}
use Rattle.reader.specs.Store.{bad_store, no_row}
use Rattle.reader.proofs.StoreLaws.{zeros-at}
use Rattle.stores.specs.Stores.{Parsed, store_at, is_whole_ok, parse, parses}
use Rattle.stores.proofs.WholeLaws.{whole_is, parse-done}
use Rattle.keeping.specs.Keeping.{keeping_work, all_there, last_of, keep_in, keep_parsed, keep_of, out_left, places_left, work_left, work_short, places_short}
use Rattle.keeping.specs.Answers.{Kept, Refused}

pub parses-whole : (s : List ℕ) → parses (parse s) ≡ true → is_whole_ok s ≡ true
unfolding parse parses
parses-whole s h = go (which (is_whole_ok s))
  where
    go : Which (is_whole_ok s) → is_whole_ok s ≡ true
    go (holds e) = e
    go (fails e) = let a = rw e at h in let z : ◌≡◌ {A = ℕ} 0 1 = cc in absurd (omega arith)

-- what an answer and what is left are to be
abbrev pub Left : Option Parsed → List ℕ → ℕ → ℕ → Kept → (o o' l l' : List ℕ) → Type 0
Left q rows a b r o o' l l' = (r ≡ keep_parsed q rows a b) × ((o' ≡ out_left q rows r o) × (l' ≡ places_left q rows r l))

refused-out : (q : Option Parsed) (rows : List ℕ) (n : ℕ) (o : List ℕ) → o ≡ out_left q rows (Refused n) o
unfolding out_left
refused-out none rows n o = refl
refused-out (some p) rows n o = refl

refused-places : (q : Option Parsed) (rows : List ℕ) (n : ℕ) (o : List ℕ) → o ≡ places_left q rows (Refused n) o
unfolding places_left
refused-places none rows n o = refl
refused-places (some p) rows n o = refl

pub bad-store : (q : Option Parsed) (rows : List ℕ) (a b : ℕ) (o l : List ℕ) → parses q ≡ false → Left q rows a b (Refused bad_store) o o l l
unfolding keep_parsed parses
bad-store none rows a b o l h = (refl, (refused-out none rows bad_store o, refused-places none rows bad_store l))
bad-store (some p) rows a b o l h = let z : ◌≡◌ {A = ℕ} 0 1 = cc in absurd (omega arith)

module _ (s rows : List ℕ) (ok : is_whole_ok s ≡ true) where
  parsed : parse s ≡ some (store_at s)
  parsed = parse-done s (whole_is s ok)

  pub no-row : (a b : ℕ) (o l : List ℕ) → all_there (store_at s) rows ≡ false → Left (parse s) rows a b (Refused no_row) o o l l
  unfolding keep_parsed keep_in
  no-row a b o l e = (rw (parsed, e), (refused-out (parse s) rows no_row o, refused-places (parse s) rows no_row l))

  pub few-places : (a b : ℕ) (o l : List ℕ) → all_there (store_at s) rows ≡ true → b < length rows → Left (parse s) rows a b (Refused places_short) o o l l
  unfolding keep_parsed keep_in
  few-places a b o l e h = (rw (parsed, e, lt-ltb b (length rows) h), (refused-out (parse s) rows places_short o, refused-places (parse s) rows places_short l))

  pub kept-so : (a b : ℕ) (r : Kept) (o o' l l' : List ℕ) → all_there (store_at s) rows ≡ true → length rows ≤ b
      → (r ≡ last_of (store_at s) rows a) × ((o' ≡ out_left (some (store_at s)) rows r o) × (l' ≡ places_left (some (store_at s)) rows r l)) → Left (parse s) rows a b r o o' l l'
  unfolding keep_parsed keep_in
  kept-so a b r o o' l l' e h k = (
    rw (parsed, e, le-ltb b (length rows) h) k.0,
    (k.1.0 ∙ ap (λ (q : Option Parsed). out_left q rows r o) (sym parsed), k.1.1 ∙ ap (λ (q : Option Parsed). places_left q rows r l) (sym parsed)),
  )

-- ---- the whole call

abbrev pub Whole : List ℕ → List ℕ → ℕ → ℕ → ℕ → Kept → (o o' l l' w w' : List ℕ) → Type 0
Whole s rows long a b r o o' l l' w w' =
    (r ≡ keep_of s rows long a b) × ((o' ≡ out_left (parse s) rows r o) × ((l' ≡ places_left (parse s) rows r l) × (w' ≡ work_left (length s) (length rows) w)))

pub work-short : (s rows : List ℕ) (a b need : ℕ) (o l w : List ℕ) → need ≡ keeping_work (length s) (length rows) → length w < need → Whole s rows (length w) a b (Refused work_short) o o l l w w
unfolding keep_of work_left
work-short s rows a b need o l w e h =
    let f = lt-ltb (length w) (keeping_work (length s) (length rows)) (omega arith) in
    (rw f, (refused-out (parse s) rows work_short o, (refused-places (parse s) rows work_short l, rw f)))

pub zeros-all : (n : ℕ) {new : List ℕ} → new ≡ replicate n 0 → (k : ℕ) → get_or new k 0 ≡ 0
zeros-all n e k = rw e (zeros-at n k)

pub keep-done : (s rows : List ℕ) (a b need : ℕ) (r : Kept) (o o' l l' w w₂ w₃ : List ℕ) → need ≡ keeping_work (length s) (length rows) → need ≤ length w
    → Left (parse s) rows a b r o o' l l' → w₃ ≡ replicate (length w₂) 0 → length w₂ ≡ length w → Whole s rows (length w) a b r o o' l l' w w₃
unfolding keep_of work_left
keep-done s rows a b need r o o' l l' w w₂ w₃ e h k z m =
    let f = le-ltb (length w) (keeping_work (length s) (length rows)) (omega arith) in
    (rw f k.0, (k.1.0, (k.1.1, rw f (rw m at z))))
