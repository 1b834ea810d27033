-- What is packed in work may be looked at: its shapes are narrow, and each id has a row. Assumes nothing.
use mathlib.Core.Path.{◌≡◌, sym, ap, subst, ◌∙◌}
use mathlib.Core.Bool.{true}
use mathlib.Core.List.{List, [], ◌∷◌}
use Prim.Native.Nat.{ℕ, zero, suc, ◌+◌, ◌^◌, ◌≤◌, ◌<◌}
use native.Mathlib.Omega.{arith}
use lib.ListN.{length, get_or}
use borrow.Author.Tests.{lt-ltb}
use Rattle.laws.specs.Pick.{pick}
use Rattle.laws.specs.Every.{All}
use Rattle.laws.specs.LentRange.{seg}
use Rattle.laws.proofs.Cases.{Which, which}
use Rattle.laws.proofs.Cases.Which.{holds, fails}
use Rattle.laws.proofs.EveryLaws.{all-get_or, all-intro}
use Rattle.laws.proofs.BoundedLaws.{length-tabulate}
use Rattle.laws.proofs.RangeLaws.{length-seg}
use Rattle.sets.specs.Set.{Set, Proper}
use Rattle.sets.specs.Ids.{distinct}
use Rattle.sets.specs.Lent.{entries, entries_at, count_of, set_of}
use Rattle.sets.proofs.IdLaws.{place_here, id_below, id-at}
use Rattle.shapes.specs.Lent.{Narrow}
use Rattle.rows.specs.Row.{Widths}
use Rattle.store.specs.Placing.{Final}
use Rattle.store.specs.Lent as store
use Rattle.said.specs.Job.{Outcome}
use Rattle.encoder.specs.Packed.{Packed, shared}
use Rattle.encoder.specs.Lent.{PackedAt}
use Rattle.finishing.specs.declared.measuring.Packing.{Packing}
use Rattle.call.specs.Build.{packed_of}
use Rattle.arranging.specs.LentArranged.{ArrangedAs}
use Rattle.accepted.proofs.PackedLaws.{WellPacked, Words, shared-good}
use Rattle.accepted.proofs.RunSound.{spot_of}
use Rattle.accepted.proofs.Accepted.{coords-long, shared-is}
use Rattle.accepted.proofs.PastLaws.{ids-long}
use Rattle.finding.specs.First.{first_at}
use Rattle.finding.proofs.FirstLaws.{first-least}
use Rattle.reasons.specs.Why.{has_row, home_in, final_no}
use Rattle.reasons.specs.LentReasons.{shape_spot, finals_in, ReasonFit}
use Rattle.reasons.proofs.HomeLaws.{finals-long, final-in}
use Rattle.reasons.proofs.ReasonLaws.{finals-same}

-- the first group that has an id is no later than one that has it
home-least : (x : ℕ) (gs : List Final) (i : ℕ) → i < length gs → has_row x (final_no gs i) ≡ true → home_in x gs ≤ i
unfolding home_in
home-least x [] i h e = absurd (omega arith)
home-least x (g ∷ gs) zero h e = rw e (omega arith)
home-least x (g ∷ gs) (suc i) h e = go (home-least x gs i (omega arith) e) (which (has_row x g))
  where
    go : home_in x gs ≤ i → Which (has_row x g) → pick (has_row x g) 0 (suc (home_in x gs)) ≤ suc i
    go rec (holds t) = rw t (omega arith)
    go rec (fails t) = rw t (omega arith)

-- the words of held sets are of 32 bits where all are
words-low : (w : List ℕ) → ((i : ℕ) → get_or w i 0 < 256 ^ 4) → (n a : ℕ) → Words (entries a n w)
unfolding entries
words-low w low zero a = tt
words-low w low (suc n) a = (low (a + 1), words-low w low n (a + 2))

module _ {axes : ℕ} {job : List ℕ} {o : Outcome} {k : Packing} {w : List ℕ} (a : ArrangedAs axes 0 job o k w) (low : (i : ℕ) → get_or w i 0 < 256 ^ 4) where
  abbrev n : ℕ
  n = length a.said.used

  abbrev jobs : List Set
  jobs = a.said.sets

  regions-are : k.places.regions ≡ length a.said.used
  unfolding store.coords_in
  regions-are =
      sym (length-tabulate 0 k.places.regions (λ r. store.coords_at job k.axes (get_or w (k.starts + r) 0)))
      ∙ ap length a.coords-are ∙ coords-long a.said

  packed : PackedAt (shared (length a.said.used) a.said.sets) k.places k.encoded w
  packed = subst (λ (x : Packed). PackedAt x k.places k.encoded w) (shared-is a.said) a.packed

  sets-long : length a.said.sets ≡ k.places.sets
  sets-long =
      let q = a.packed in
      sym (ids-long 0 a.said) ∙ sym (ap length q.ids-are) ∙ length-seg k.places.ids k.places.sets w (omega (arith, q.ids-to, q.finals-to, q.rows-to))

  set_at : (i : ℕ) → i < length a.said.sets → get_or a.said.sets i [] ≡ set_of 0 i w
  unfolding shared
  set_at i h =
      sym (place_here (get_or jobs i []) (distinct jobs) (id_below jobs i h))
      ∙ ap (λ (q : ℕ). get_or (distinct jobs) q []) (sym (id-at jobs i h))
      ∙ packed.sets-are i (omega (arith, sets-long))

  proper : All (Proper (length a.said.used)) a.said.sets
  proper = all-intro (Proper n) jobs [] (λ i h.
      subst (λ (r : ℕ). Proper r (get_or jobs i [])) regions-are
      (subst (λ (s : Set). Proper k.places.regions s) (sym (set_at i h)) (packed.held.proper i (omega (arith, sets-long)))))

  words : All (λ (s : Set). Words s) a.said.sets
  unfolding set_of
  words = all-intro (λ (s : Set). Words s) jobs [] (λ i h.
      subst (λ (s : Set). Words s) (sym (set_at i h)) (words-low w low (count_of 0 i w) (entries_at 0 i w)))

  good : WellPacked (length a.said.used) (packed_of 0 a.said)
  good = subst (λ (x : Packed). WellPacked n x) (sym (shared-is a.said)) (shared-good n jobs proper words)

  abbrev finals : List Final
  finals = (packed_of 0 a.said).finals

  finals-are : finals_in k.places k.encoded.count w ≡ (packed_of 0 a.said).finals
  finals-are = finals-same k.places k.encoded w (packed_of 0 a.said) a.packed

  finals-count : length (packed_of 0 a.said).finals ≡ k.encoded.count
  finals-count = ap length (sym finals-are) ∙ finals-long k.places k.encoded.count w

  shape_is : (g : ℕ) → g < k.encoded.count → (final_no (packed_of 0 a.said).finals g).shape ≡ seg (shape_spot k.places w g) k.places.regions w
  shape_is g h = ap (λ (l : List Final). (final_no l g).shape) (sym finals-are) ∙ ap (λ (f : Final). f.shape) (final-in k.places k.encoded.count w g h)

  narrow : (g : ℕ) → g < k.encoded.count → Narrow (seg (shape_spot k.places w g) k.places.regions w)
  narrow g h =
      let none : Final = record { shape = []; ids = [] } in
      let b : g < length finals = omega (arith, finals-count) in
      let m = all-get_or (λ (f : Final). Widths f.shape) finals g none good.widths b in
      let l = all-get_or (λ (f : Final). length f.shape ≡ n) finals g none good.long b in
      subst Narrow (shape_is g h) (record { few = omega (arith, l, regions-are, a.packed.regions-few); narrow = m.most })

  there : (x : ℕ) → x < k.encoded.distinct → home_in x (packed_of 0 a.said).finals < k.encoded.count
  there x h =
      let s = spot_of finals x (good.each x (omega (arith, a.packed.distinct-is))) in
      let ids = (final_no finals s.outer).ids in
      let l = first-least x ids s.inner s.inner_below s.is in
      omega (arith, finals-count, s.outer_below, home-least x finals s.outer s.outer_below (lt-ltb (first_at x ids) (length ids) (omega (arith, s.inner_below))))

  pub reason-fit : (x y : ℕ) → x < k.encoded.distinct → y < k.encoded.distinct → ReasonFit k.places k.encoded x y w
  reason-fit x y h i = record { packed-as = packed_of 0 a.said; packed = a.packed; narrow = narrow; first-there = there x h; second-there = there y i }
