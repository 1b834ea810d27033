-- Which part is found, that it lies in what it is of, and that an empty one starts at 0. Assumes nothing.
use mathlib.Core.Path.{◌≡◌, refl, sym, ap, subst, ◌∙◌}
use mathlib.Core.Bool.{Bool, true, false, not}
use mathlib.Core.List.{List}
use Prim.Native.Nat.{ℕ, ◌+◌, ◌*◌, ◌/◌, ◌%◌, ◌≤◌, ◌<◌}
use native.Mathlib.Omega.{arith}
use lib.Dec.{eqb, ltb, leb}
use lib.ListN.{length, get_or}
use borrow.Author.Tests.{eq-eqb, ne_eqb, eqb-false, ltb-true, leb-false, not-false}
use Rattle.laws.specs.Pick.{pick}
use Rattle.laws.specs.Bytes.{be}
use Rattle.laws.proofs.Cases.{Which, which}
use Rattle.laws.proofs.Cases.Which.{holds, fails}
use Rattle.laws.proofs.Products.{row_fits}
use Rattle.said.specs.Records.{record_bytes, record_start, record_count}
use Rattle.reader.specs.Store.{region_count, is_header_ok, column_start, item_count, word_at, column_count, is_subtable_ok}
use Rattle.reader.proofs.StoreLaws.{subtable-fits}
use Rattle.finding.specs.First.{first_at}
use Rattle.finding.specs.Asked.{asked_refusal}
use Rattle.finding.proofs.AskedLaws.{asked-none}
use Rattle.finishing.specs.declared.answers.Report.{Report}
use Rattle.finishing.specs.Answers.{Built}
use Rattle.finishing.specs.Answers as built
use Rattle.showing.specs.declared.ends.Span.{Span}
use Rattle.showing.specs.Answers.{Shown}
use Rattle.showing.specs.Answers.{Refused, InJob, InStore}
use Rattle.showing.specs.Parts.{no_span, span, end_at, end_span, row_in, row_span, in_job, in_store, asked_part, found_of}
use Rattle.showing.specs.LentParts.{Fits, Within, EmptyFirst}

-- ---- the part of the one that was asked for

module _ (job store ids map : List ℕ) (id what : ℕ) (p : Span) where
  pub asked-job : what ≡ 0 → (j : ℕ) → j ≡ first_at id ids → p ≡ end_span job j → InJob p.at p.long ≡ asked_part job store ids map id what
  unfolding asked_part
  asked-job z j e f = rw (eq-eqb what 0 z) (ap in_job (f ∙ ap (end_span job) e))

  pub asked-store : (what ≡ 0 → ⊥) → p ≡ row_span store (get_or map id 0) → InStore p.at p.long ≡ asked_part job store ids map id what
  unfolding asked_part
  asked-store d f = rw (ne_eqb what 0 d) (ap in_store f)

-- ---- of what a build answered

module _ (b : Built) (job store out ids map : List ℕ) (id what : ℕ) where
  module _ (r : Report) (e : b ≡ built.Done r) where
    pub fits_out : Fits b out map → r.bytes ≤ length out
    fits_out h = (subst (λ (x : Built). Fits x out map) e h).0

    fits-map : Fits b out map → r.ids ≤ length map
    fits-map h = (subst (λ (x : Built). Fits x out map) e h).1

    module _ (n : ℕ) (a : n ≡ asked_refusal r.ids r.bytes id id store out) where
      pub found-id : Fits b out map → n ≡ 0 → id < length map
      found-id h z = omega (arith, fits-map h, (asked-none r.ids r.bytes id id store out (sym a ∙ z)).0)

-- ---- it lies there

abbrev Inside : Span → ℕ → Type 0
Inside p n = p.at + p.long ≤ n

pub end-within : (job : List ℕ) (j : ℕ) → Inside (end_span job j) (length job)
unfolding end_span
end-within job j = go (which (ltb (end_at job j) (record_count job)))
  where
    go : Which (ltb (end_at job j) (record_count job)) → Inside (pick (ltb (end_at job j) (record_count job)) (record { at = record_start (end_at job j); long = record_bytes }) no_span) (length job)
    go (holds t) = rw t (let l = ltb-true (end_at job j) (record_count job) t in omega arith)
    go (fails t) = rw t (omega arith)

span-within : (at long n : ℕ) → at + long ≤ n → Inside (span at long) n
unfolding span
span-within at long n h = go (which (eqb long 0))
  where
    go : Which (eqb long 0) → Inside (pick (eqb long 0) no_span (record { at = at; long = long })) n
    go (holds t) = rw t (omega arith)
    go (fails t) = rw t h

pick-within : (b : Bool) (p : Span) (n : ℕ) → (b ≡ false → Inside p n) → Inside (pick b no_span p) n
pick-within true p n h = omega arith
pick-within false p n h = h refl

pub row_within : (s : List ℕ) (word : ℕ) → Inside (row_span s word) (length s)
unfolding row_span row_in
row_within s word =
    let at = be 4 s (8 + 4 * (word / 65536)) in
    let inner = word % 65536 in
    let row = column_start (word_at s at) (column_count s at) in
    pick-within (not (is_header_ok s)) _ (length s) (λ h.
    pick-within (leb (be 2 s 6) (word / 65536)) _ (length s) (λ o.
    pick-within (eqb at 0) _ (length s) (λ z.
    pick-within (not (is_subtable_ok s at (region_count s))) _ (length s) (λ t.
    pick-within (leb (item_count s at) inner) _ (length s) (λ i.
    span-within (at + 6 + 2 * column_count s at + inner * row) row (length s)
    (let f = subtable-fits s at (region_count s) (not-false (is_subtable_ok s at (region_count s)) t) in
    let g = row_fits row (item_count s at) inner (leb-false (item_count s at) inner i) in
    omega (arith, f.rows)))))))

pub found_within : (b : Built) (job store out ids map : List ℕ) (id what : ℕ) → Within job store (found_of b job store out ids map id what)
unfolding found_of asked_part
found_within (built.Refused n at) job store out ids map id what = tt
found_within (built.Done r) job store out ids map id what = go (which (eqb (asked_refusal r.ids r.bytes id id store out) 0)) (which (eqb what 0))
  where
    go : Which (eqb (asked_refusal r.ids r.bytes id id store out) 0) → Which (eqb what 0)
        → Within job store (pick (eqb (asked_refusal r.ids r.bytes id id store out) 0)
        (pick (eqb what 0) (in_job (end_span job (first_at id ids))) (in_store (row_span store (get_or map id 0))))
        (Refused (asked_refusal r.ids r.bytes id id store out) 0))
    go (fails t) w = rw t tt
    go (holds t) (holds u) = rw (t, u) (end-within job (first_at id ids))
    go (holds t) (fails u) = rw (t, u) (row_within store (get_or map id 0))

-- ---- an empty one starts at 0

abbrev First : Span → Type 0
First p = p.long ≡ 0 → p.at ≡ 0

end-first : (job : List ℕ) (j : ℕ) → First (end_span job j)
unfolding end_span
end-first job j = go (which (ltb (end_at job j) (record_count job)))
  where
    go : Which (ltb (end_at job j) (record_count job)) → First (pick (ltb (end_at job j) (record_count job)) (record { at = record_start (end_at job j); long = record_bytes }) no_span)
    go (holds t) = rw t (λ z. absurd (omega arith))
    go (fails t) = rw t (λ z. refl)

span-first : (at long : ℕ) → First (span at long)
unfolding span
span-first at long = go (which (eqb long 0))
  where
    go : Which (eqb long 0) → First (pick (eqb long 0) no_span (record { at = at; long = long }))
    go (holds t) = rw t (λ z. refl)
    go (fails t) = rw t (λ z. absurd (eqb-false long 0 t z))

pick_first : (b : Bool) (p : Span) → First p → First (pick b no_span p)
pick_first true p h = λ z. refl
pick_first false p h = h

row_first : (s : List ℕ) (word : ℕ) → First (row_span s word)
unfolding row_span row_in
row_first s word =
    let at = be 4 s (8 + 4 * (word / 65536)) in
    let inner = word % 65536 in
    let row = column_start (word_at s at) (column_count s at) in
    pick_first (not (is_header_ok s)) _
    (pick_first (leb (be 2 s 6) (word / 65536)) _
    (pick_first (eqb at 0) _
    (pick_first (not (is_subtable_ok s at (region_count s))) _
    (pick_first (leb (item_count s at) inner) _
    (span-first (at + 6 + 2 * column_count s at + inner * row) row)))))

pub found_first : (b : Built) (job store out ids map : List ℕ) (id what : ℕ) → EmptyFirst (found_of b job store out ids map id what)
unfolding found_of asked_part
found_first (built.Refused n at) job store out ids map id what = tt
found_first (built.Done r) job store out ids map id what = go (which (eqb (asked_refusal r.ids r.bytes id id store out) 0)) (which (eqb what 0))
  where
    go : Which (eqb (asked_refusal r.ids r.bytes id id store out) 0) → Which (eqb what 0)
        → EmptyFirst (pick (eqb (asked_refusal r.ids r.bytes id id store out) 0)
        (pick (eqb what 0) (in_job (end_span job (first_at id ids))) (in_store (row_span store (get_or map id 0))))
        (Refused (asked_refusal r.ids r.bytes id id store out) 0))
    go (fails t) w = rw t tt
    go (holds t) (holds u) = rw (t, u) (end-first job (first_at id ids))
    go (holds t) (fails u) = rw (t, u) (row_first store (get_or map id 0))
