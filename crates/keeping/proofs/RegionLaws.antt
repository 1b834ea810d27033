-- Regions made zero, marked and numbered. Assumes nothing.
use mathlib.Core.Path.{◌≡◌, ap, ap₂, ◌∙◌}
use mathlib.Core.Bool.{Bool}
use mathlib.Core.List.{List, [], ◌∷◌}
use mathlib.Core.Option.{Option, some}
use Prim.Native.Nat.{ℕ, ◌+◌, ◌*◌, ◌≤◌, ◌<◌}
use native.Mathlib.Omega.{arith}
use lib.ListN.{length, get_or}
use Rattle.laws.specs.Pick.{pick}
use Rattle.laws.specs.Bounded.{up_to}
use Rattle.laws.specs.LentRange.{Only, Zeroed}
use Rattle.laws.specs.Sorting.{rank}
use Rattle.laws.specs.Bytes.{be}
use Rattle.laws.proofs.BoundedLaws.{tabulate-same}
use Rattle.laws.proofs.EveryLaws.{all-imp}
use Rattle.laws.proofs.RangeLaws.{only-trans}
use Rattle.laws.proofs.SortLaws.{keep_same}
use Rattle.laws.proofs.UpLaws.{up-all}
use Rattle.reader.specs.Store.{list_at, region_count}
use Rattle.stores.specs.Stores.{Table, table_at}
use Rattle.stores.specs.Dropping.{named}
use Rattle.cutting.specs.LentCut.{table_of, StoreFit, marked, tables_of, TablesMarked, NumberedAt}
use Rattle.cutting.proofs.CutLaws.{table_kept, fit-kept}
use Rattle.keeping.specs.LentKeep.{RegionsNamed}

module _ {s : List ℕ} {n t : ℕ} {w₀ : List ℕ} (f : StoreFit s n w₀ t) (list regions : ℕ) (a : list ≡ list_at s) (b : regions ≡ be 2 s (list + 2)) where
  pub regions-are : regions ≡ region_count s
  regions-are = b ∙ ap (λ (x : ℕ). be 2 s (x + 2)) a

  pub zero_room : 3 * n + 1 + regions ≤ length w₀
  zero_room = omega (arith, regions-are, f.room)

  module _ {w₁ : List ℕ} (z : Zeroed (3 * n + 1) regions w₀ w₁) where
    only₁ : Only ((3 * n + 1, region_count s) ∷ []) w₀ w₁
    only₁ = rw regions-are at z.only

    pub fit₁ : StoreFit s n w₁ t
    fit₁ = record {
      header = f.header;
      few = f.few;
      most = f.most;
      room = rw only₁.long f.room;
      table = λ g l. fit-kept only₁ (omega (arith, f.most)) (f.table g l);
    }

    pub zeros₁ : (r : ℕ) → r < region_count s → get_or w₁ (3 * n + 1 + r) 0 ≡ 0
    zeros₁ r h = z.is r (omega (arith, regions-are))

    tables₁ : tables_of s n w₁ t ≡ tables_of s n w₀ t
    tables₁ = tabulate-same 0 t (λ h. some (table_at s (table_of s n w₁ h))) (λ h. some (table_at s (table_of s n w₀ h)))
        (λ g x y. ap (λ (i : ℕ). some (table_at s i)) (table_kept only₁ (omega (arith, f.most)) (f.table g (omega arith))))

    module _ {w₂ : List ℕ} (m : TablesMarked s n t w₁ w₂) where
      abbrev nm : ℕ → Bool
      nm = named (tables_of s n w₀ t)

      marked-are : (r : ℕ) → r < region_count s → marked (3 * n + 1) w₂ r ≡ nm r
      marked-are r h = m.is r h ∙ ap (λ (ts : List (Option Table)). named ts r) tables₁

      rank-are : (r : ℕ) → r ≤ region_count s → rank (marked (3 * n + 1) w₂) r ≡ rank nm r
      rank-are r h = ap length (keep_same (marked (3 * n + 1) w₂) nm (up_to r) (all-imp (λ q l. marked-are q (omega arith)) (up_to r) (up-all r)))

      pub regions-named : {w₃ : List ℕ} {k : ℕ} → NumberedAt (3 * n + 1) regions w₂ w₃ k → RegionsNamed s n t w₀ w₃ k
      regions-named {w₃} {k} q = record {
        only = only-trans only₁ (only-trans m.only (rw regions-are at q.only));
        is = λ r h. q.is r (omega (arith, regions-are)) ∙ ap₂ (λ (x : Bool) (y : ℕ). pick x (y + 1) 0) (marked-are r h) (rank-are r (omega arith));
        count = q.count ∙ ap (rank (marked (3 * n + 1) w₂)) regions-are ∙ rank-are (region_count s) (omega arith);
      }
