-- A wide group among others: what is left of the groups answers for all; and what is so of each group where none is wide. Assumes nothing.
use mathlib.Core.Path.{◌≡◌, refl, ap}
use mathlib.Core.Bool.{Bool, true, false, ◌||◌}
use mathlib.Core.List.{List, [], ◌∷◌, map}
use Prim.Native.Nat.{ℕ, suc, ◌+◌, ◌-◌, ◌*◌, ◌≤◌, ◌<◌}
use native.Mathlib.Nat.{sub-zero}
use native.Mathlib.Numerals.{add-one}
use native.Mathlib.Omega.{arith}
use lib.Dec.{ltb}
use lib.ListN.{length}
use borrow.Author.Tests.{lt-ltb, le-ltb, ltb-false}
use Rattle.laws.specs.Bounded.{tabulate}
use Rattle.laws.specs.Every.{All}
use Rattle.laws.proofs.Cases.{Which, which}
use Rattle.laws.proofs.Cases.Which.{holds, fails}
use Rattle.rows.specs.Columns.{columns_of}
use Rattle.store.specs.Placing.{Final}
use Rattle.store.specs.Lent.{FormOf, final_at, finals_at}
use Rattle.panel.specs.declared.Profile.{Profile}
use Rattle.panel.specs.declared.Profile.TheVariants.{Plain, Panel}
use Rattle.narrow.specs.Columns.{most_columns, is_some_wide, is_too_wide}

-- ---- the groups from g on

module _ (w : List ℕ) (regions groups n : ℕ) where
  abbrev pub group : ℕ → Final
  group g = final_at regions w (groups + 3 * g)

  pub wide-start : is_some_wide (tabulate 0 (n - 0) (λ g. final_at regions w (groups + 3 * g))) ≡ is_some_wide (finals_at regions groups n w)
  unfolding finals_at
  wide-start = rw (sub-zero n)

  module _ (g word count : ℕ) (h : g < n) (f : FormOf (final_at regions w (groups + 3 * g)) word count) where
    next : tabulate g (n - g) group ≡ group g ∷ tabulate (g + 1) (n - (g + 1)) group
    unfolding tabulate
    next = let e : n - g ≡ suc (n - (g + 1)) = omega arith in rw (e, add-one g)

    pub wide-here : most_columns < count → true ≡ is_some_wide (tabulate g (n - g) (λ k. final_at regions w (groups + 3 * k)))
    unfolding is_some_wide
    wide-here l = let c = f.count-is in rw (next, lt-ltb most_columns (length (columns_of (group g).shape)) (omega arith))

    pub wide-later : count ≤ most_columns → is_some_wide (tabulate g (n - g) (λ k. final_at regions w (groups + 3 * k))) ≡ is_some_wide (tabulate (g + 1) (n - (g + 1)) (λ k. final_at regions w (groups + 3 * k)))
    unfolding is_some_wide
    wide-later l = let c = f.count-is in rw (next, le-ltb most_columns (length (columns_of (group g).shape)) (omega arith))

  pub wide-none : (g : ℕ) → n ≤ g → false ≡ is_some_wide (tabulate g (n - g) (λ k. final_at regions w (groups + 3 * k)))
  unfolding is_some_wide tabulate
  wide-none g h = let e : n - g ≡ 0 = omega arith in rw e

-- ---- by the profile

-- ---- only shapes count

pub wide-shapes : (f : List ℕ → List ℕ) (gs : List Final) → is_some_wide (map (λ (g : Final). record { shape = g.shape; ids = f g.ids }) gs) ≡ is_some_wide gs
unfolding is_some_wide
wide-shapes f [] = refl
wide-shapes f (g ∷ gs) = ap (λ (b : Bool). ltb most_columns (length (columns_of g.shape)) || b) (wide-shapes f gs)

-- ---- where none is wide

pub all-narrow : (gs : List Final) → is_some_wide gs ≡ false → All (λ (g : Final). length (columns_of g.shape) ≤ most_columns) gs
unfolding is_some_wide
all-narrow [] e = tt
all-narrow (g ∷ gs) e = go (λ k. all-narrow gs k) (which (ltb most_columns (length (columns_of g.shape)))) e
  where
    go : (is_some_wide gs ≡ false → All (λ (g : Final). length (columns_of g.shape) ≤ most_columns) gs)
        → Which (ltb most_columns (length (columns_of g.shape))) → (ltb most_columns (length (columns_of g.shape)) || is_some_wide gs) ≡ false
        → (length (columns_of g.shape) ≤ most_columns) × All (λ (g : Final). length (columns_of g.shape) ≤ most_columns) gs
    go rec (holds h) k = let f = rw h at k in let z : ◌≡◌ {A = ℕ} 0 1 = cc in absurd (omega arith)
    go rec (fails h) k = (ltb-false most_columns (length (columns_of g.shape)) h, rec (rw h at k))

pub too-wide-shapes : (p : Profile) (f : List ℕ → List ℕ) (gs : List Final) → is_too_wide p (map (λ (g : Final). record { shape = g.shape; ids = f g.ids }) gs) ≡ is_too_wide p gs
unfolding is_too_wide
too-wide-shapes Plain f gs = refl
too-wide-shapes Panel f gs = wide-shapes f gs
