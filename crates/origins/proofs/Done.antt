-- The final groups of a done build, made again from the memory that it leaves. Assumes nothing.
use mathlib.Core.Path.{◌≡◌, refl, sym, ap, ap₂, subst, ◌∙◌}
use mathlib.Core.List.{List, [], map}
use mathlib.Core.Option.{Option}
use Prim.Native.Nat.{ℕ, ◌+◌, ◌-◌, ◌*◌}
use native.Mathlib.Omega.{arith}
use lib.ListN.{length, get_or, take}
use Rattle.laws.proofs.SortMap.{length-sorted}
use Rattle.sets.specs.Set.{Set}
use Rattle.sets.specs.Ids.{distinct}
use Rattle.groups.specs.Groups.{groups_of}
use Rattle.rule.specs.Model.{merged}
use Rattle.rule.proofs.Theorems.{run-count}
use Rattle.stores.specs.Stores.{Table}
use Rattle.store.specs.Placing.{all_runs, new_index, made_of}
use Rattle.said.specs.Job.{Said}
use Rattle.said.proofs.SoundLaws.{Bytes}
use Rattle.encoder.specs.Packed.{Packed, is_ahead, shared}
use Rattle.finishing.specs.declared.answers.Report.{Report}
use Rattle.finishing.specs.Answers.{Done}
use Rattle.finishing.specs.Late.{origin_words}
use Rattle.call.specs.Lending.{Lending}
use Rattle.call.specs.Build.{packed_of, answer_of, after}
use Rattle.accepted.proofs.Accepted.{Accepted, accepted, packed_in, merges-are, groups-are, origins-front}
use Rattle.accepted.proofs.WholeBack.{made_in, store-parsed}
use Rattle.origins.specs.Origins.{Rebuilt, Back}
use Rattle.origins.proofs.RunsLaws.{slot}
use Rattle.origins.proofs.GroupLaws.{finals, finals-long, rebuilt}

-- packed sets whose final groups are made again from their origins
abbrev Again : ℕ → List Set → Packed → Type 0
Again n all k =
    Rebuilt (groups_of n all) (origin_words 0 k.origins) (new_index k.finals) (map (slot (new_index k.finals) (λ x. get_or k.sets x [])) (all_runs k.finals))
    (k.groups - length k.log)

-- each merge leaves one group less
count-is : (n : ℕ) (all : List Set) → length (finals n all) ≡ length (groups_of n all) - length (merged (groups_of n all)).log
count-is n all =
    let m = length-sorted is_ahead (merged (groups_of n all)).living in
    let c : length (merged (groups_of n all)).log + length (merged (groups_of n all)).living ≡ length (groups_of n all) = unfold merged in run-count (length (groups_of n all)) (groups_of n all) in
    omega (arith, finals-long n all)

shared-again : (n : ℕ) (all : List Set) → Again n all (shared n all)
unfolding shared
shared-again n all =
    subst (Rebuilt (groups_of n all) _ _ _) (count-is n all) (rebuilt n all (new_index (finals n all)) (λ x. get_or (distinct all) x []))

shared-is : (s : Said) → packed_of 0 s ≡ shared (length s.used) s.sets
unfolding packed_of
shared-is s = refl

module _ (c : Lending) (r : Report) (a : Accepted c r) (m : c.mode ≡ 0) where
  packed-is : packed_in c a.said ≡ packed_of 0 a.said
  packed-is = ap (λ (k : ℕ). packed_of k a.said) m

  again : Again (length a.said.used) a.said.sets (packed_of 0 a.said)
  again = subst (Again (length a.said.used) a.said.sets) (sym (shared-is a.said)) (shared-again (length a.said.used) a.said.sets)

  abbrev tables : Packed → List (Option Table)
  tables k = map (slot (new_index k.finals) (λ x. get_or k.sets x [])) (all_runs k.finals)

  tables-are : (made_in c r a).tables ≡ tables (packed_of 0 a.said)
  unfolding made_of
  tables-are = ap tables packed-is

  words_are : take (2 * r.groups) (after c).lent.origins ≡ origin_words 0 (packed_of 0 a.said).origins
  words_are = origins-front c r a ∙ ap (λ (k : Packed). origin_words 0 k.origins) packed-is

  count-are : r.groups - r.merges ≡ (packed_of 0 a.said).groups - length (packed_of 0 a.said).log
  count-are = ap₂ ◌-◌ (groups-are c r a ∙ ap (λ (k : Packed). k.groups) packed-is) (merges-are c r a ∙ ap (λ (k : Packed). length k.log) packed-is)

  back : Bytes c.job → Back c r
  back bytes = record {
    said = a.said;
    said-is = a.said-is;
    store = made_in c r a;
    parsed = store-parsed c r a bytes;
    rebuilt = rw (words_are, tables-are, count-are) again;
  }

-- THE LAW
pub origins-back : (c : Lending) (r : Report) → Bytes c.job → c.mode ≡ 0 → answer_of c ≡ Done r → Back c r
origins-back c r bytes m e = back c r (accepted c r e) m bytes
