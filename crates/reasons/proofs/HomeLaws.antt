-- The final group that has an id, found by a walk along the groups. Assumes nothing.
use mathlib.Core.Path.{◌≡◌, refl, sym, ap, ◌∙◌}
use mathlib.Core.Bool.{true, false}
use mathlib.Core.List.{List, [], map}
use Prim.Native.Nat.{ℕ, ◌+◌, ◌*◌, ◌≤◌, ◌<◌}
use native.Mathlib.Numerals.{add-one}
use native.Mathlib.Omega.{arith}
use lib.Dec.{ltb}
use lib.ListN.{length, drop, length-map}
use lib.Seq.{drop-cons, drop-length}
use borrow.Author.Tests.{lt-ltb, le-ltb}
use Rattle.laws.specs.Bounded.{tabulate}
use Rattle.laws.specs.LentRange.{seg}
use Rattle.laws.proofs.ListLaws.{get_or-map-in}
use Rattle.laws.proofs.BoundedLaws.{length-tabulate, get_or-tabulate}
use Rattle.store.specs.Placing.{Final}
use Rattle.store.specs.Lent.{final_at, finals_at}
use Rattle.encoder.specs.Lent.{relabel}
use Rattle.encoder.specs.declared.places.Places.{Places}
use Rattle.finding.specs.First.{first_at}
use Rattle.reasons.specs.Why.{has_row, home_in, final_no}
use Rattle.reasons.specs.LentReasons.{label, shape_spot, row_count, ids_in, finals_in, GroupsIn}
use Rattle.reasons.proofs.RowLaws.{ids-long}

abbrev none : Final
none = record { shape = []; ids = [] }

-- ---- so far, and what is left

module _ (x : ℕ) (gs : List Final) (i : ℕ) (so : home_in x gs ≡ i + home_in x (drop i gs)) where
  home_here : i < length gs → has_row x (final_no gs i) ≡ true → i ≡ home_in x gs
  unfolding home_in
  home_here h e = sym (so ∙ rw (drop-cons gs i none h, e) (omega arith))

  home-further : i < length gs → has_row x (final_no gs i) ≡ false → home_in x gs ≡ i + 1 + home_in x (drop (i + 1) gs)
  unfolding home_in
  home-further h n = so ∙ rw (drop-cons gs i none h, n, add-one i) (omega arith)

  home-nowhere : i ≡ length gs → i ≡ home_in x gs
  unfolding home_in
  home-nowhere e = sym (so ∙ rw (e, drop-length gs) (omega arith))

-- ---- the groups in work

pub record Sought (p : Places) (count : ℕ) (w : List ℕ) (x g : ℕ) : Type 0 where
  pub most : g ≤ count
  pub so : home_in x (finals_in p count w) ≡ g + home_in x (drop g (finals_in p count w))

module _ (p : Places) (count : ℕ) (w : List ℕ) where
  pub finals-long : length (finals_in p count w) ≡ count
  unfolding finals_in relabel finals_at
  finals-long =
      length-map (tabulate 0 count (λ g. final_at p.regions w (p.finals + 3 * g))) (λ (f : Final). record { shape = f.shape; ids = map (label p w) f.ids })
      ∙ length-tabulate 0 count (λ g. final_at p.regions w (p.finals + 3 * g))

  pub final-in : (g : ℕ) → g < count → final_no (finals_in p count w) g ≡ record { shape = seg (shape_spot p w g) p.regions w; ids = ids_in p w g }
  unfolding finals_in relabel finals_at final_at ids_in
  final-in g h =
      let at : ℕ → Final = λ k. final_at p.regions w (p.finals + 3 * k) in
      let named : Final → Final = λ f. record { shape = f.shape; ids = map (label p w) f.ids } in
      let z : 0 + g ≡ g = omega arith in
      get_or-map-in named (tabulate 0 count at) g none none (omega (arith, length-tabulate 0 count at))
      ∙ ap named (get_or-tabulate 0 count at none g h ∙ ap at z)

  module _ (fit : GroupsIn p count w) where
    module _ {x g : ℕ} (k : Sought p count w x g) (n r : ℕ) (e : n ≡ row_count p w g) (f : r ≡ first_at x (ids_in p w g)) (h : g < count) where
      has-is : has_row x (final_no (finals_in p count w) g) ≡ ltb r n
      has-is = rw (final-in g h, ids-long p g w (fit.each g h), ← f, ← e) refl

      pub seek-here : r < n → g ≡ home_in x (finals_in p count w)
      seek-here l = home_here x (finals_in p count w) g k.so (omega (arith, finals-long)) (has-is ∙ lt-ltb r n l)

      pub seek-more : n ≤ r → Sought p count w x (g + 1)
      seek-more l = record {
        most = omega arith;
        so = home-further x (finals_in p count w) g k.so (omega (arith, finals-long)) (has-is ∙ le-ltb r n l);
      }

    pub seek-done : {x g : ℕ} → Sought p count w x g → count ≤ g → g ≡ home_in x (finals_in p count w)
    seek-done {x} {g} k h = home-nowhere x (finals_in p count w) g k.so (omega (arith, finals-long, k.most))
