-- D3 (specs/Demand3.antt), of the merges that a done build makes and logs; and what mode 1 answers for them. Assumes
-- nothing.
use mathlib.Core.Path.{◌≡◌, refl, sym, ap, subst, ◌∙◌}
use mathlib.Core.List.{List, [], map, ◌∷◌}
use Prim.Native.Nat.{ℕ, ◌+◌, ◌<◌}
use native.Mathlib.Omega.{arith}
use lib.ListN.{length, get_or}
use Rattle.laws.specs.Every.{All}
use Rattle.laws.specs.Bytes.{over}
use Rattle.laws.specs.Bag.{weigh}
use Rattle.laws.specs.Sorting.{sorted}
use Rattle.laws.proofs.EveryLaws.{all-and, all-imp}
use Rattle.shapes.specs.Shape.{join}
use Rattle.shapes.specs.Group.{Group}
use Rattle.sets.specs.Set.{Set}
use Rattle.sets.specs.Ids.{distinct}
use Rattle.groups.specs.Groups.{groups_of}
use Rattle.groups.proofs.GroupLaws.{groups-unlike, groups-some, groups-long}
use Rattle.rule.specs.Model.{Living, Entry, run, start, merged, total}
use Rattle.rule.specs.Told.{words}
use Rattle.rule.proofs.Theorems as merging
use Rattle.rule.proofs.Theorems.{Merges, saved, merged-merges, run-total, all-gains-zero, fewer, none-of-none, merged-few, merged-weighed, words-length, weighed-is, weighed-few}
use Rattle.rule.proofs.Origins.{homes, one-home, Made, made, times, join_of, sets_of}
use Rattle.store.specs.Placing.{all_runs, store_of}
use Rattle.said.specs.Job.{Said}
use Rattle.sizes.specs.Sizes.{group_at, shapes_joined}
use Rattle.encoder.specs.Packed.{Packed, origins_of, shared, own, is_ahead, final_of, finals_of, one_cost}
use Rattle.finishing.specs.declared.answers.Report.{Report}
use Rattle.finishing.specs.Answers.{Done}
use Rattle.finishing.specs.Late.{store_for, origin_words, report_of}
use Rattle.call.specs.Lending.{Lending}
use Rattle.call.specs.Build.{coords_in_use, packed_of, answer_of}
use Rattle.accepted.proofs.Accepted.{Accepted, accepted, packed_in, log_is, store-front, log-front, shared-is, sets-are, packed-is, origins-is, origins-front}
use Rattle.demands.proofs.JoinSteps.{joins}
use Rattle.demands.specs.Demand3.{homes_of, MadeOf, Ruled, groups_said, Demand3, NoMerging}

-- ---- the rule on a list of groups

saved-is : (l : List Entry) → saved l ≡ weigh (λ (e : Entry). e.gain) l
unfolding saved weigh
saved-is [] = refl
saved-is (e ∷ l) = ap (λ (n : ℕ). e.gain + n) (saved-is l)

homes-are : (xs : List Group) (j i : ℕ) → i < length xs → homes_of i (run j (start xs)).living ≡ 1
unfolding homes times
homes-are xs j i h = one-home j xs i h

shapes-are : (xs : List Group) (l : List ℕ) → join_of xs l ≡ shapes_joined xs l
unfolding join_of shapes_joined
shapes-are xs [] = refl
shapes-are xs (i ∷ l) = ap (join (group_at xs i).shape) (shapes-are xs l)

made-is : (xs : List Group) (g : Living) → Made xs g → MadeOf xs g
unfolding sets_of
made-is xs g m = record { shape_is = m.shape_is ∙ shapes-are xs g.origins; sets-is = m.sets-is }

all_made : (xs : List Group) (j : ℕ) → All (MadeOf xs) (run j (start xs)).living
all_made xs j = all-imp (made-is xs) (run j (start xs)).living (made j xs)

falls-by : (xs : List Group) → total (merged xs).living + weigh (λ (e : Entry). e.gain) (merged xs).log ≡ total (start xs).living
unfolding merged
falls-by xs = omega (arith, run-total (length xs) xs, saved-is (run (length xs) (start xs)).log)

ruled : (xs : List Group) → Ruled xs (length xs) (length (merged xs).log) (merged xs).weighed (total (start xs).living) (total (merged xs).living)
unfolding merged
ruled xs = record {
  groups-are = refl;
  merges-are = refl;
  weighed-are = refl;
  before-is = refl;
  after_is = refl;
  joined = joins xs;
  falls = falls-by xs;
  gains-end = all-gains-zero xs;
  fewer-merges = fewer (length xs) xs;
  none-merged = λ z. (none-of-none (length xs) xs z).0;
  pairs-weighed = merged-weighed xs;
  pairs-most = merged-few xs;
  one-group = homes-are xs;
  made_of = all_made xs;
}

-- the groups of a job's sets differ in shape, and each has sets
groups-proper : (n : ℕ) (all : List Set) → merging.Proper n (groups_of n all)
groups-proper n all = record {
  full = all-and _ _ (groups_of n all) (groups-some n all) (groups-long n all);
  distinct = groups-unlike n all;
}

-- ---- mode 0

module _ (s : Said) where
  log-is-rule : (packed_of 0 s).log ≡ (merged (groups_said s)).log
  unfolding shared
  log-is-rule = ap (λ (p : Packed). p.log) (shared-is s)

  origins-of : (packed_of 0 s).origins ≡ origins_of (groups_said s)
  unfolding shared
  origins-of = ap (λ (p : Packed). p.origins) (shared-is s)

  finals-living : (packed_of 0 s).finals ≡ map (final_of (length s.used) (groups_said s) (distinct s.sets)) (sorted is_ahead (merged (groups_said s)).living)
  unfolding shared finals_of
  finals-living = ap (λ (p : Packed). p.finals) (shared-is s)

  store-of : (axes : ℕ) → store_for axes (coords_in_use s) (packed_of 0 s) ≡ store_of axes (coords_in_use s) (λ x. get_or (distinct s.sets) x []) (packed_of 0 s).finals
  unfolding store_for
  store-of axes = ap (λ (l : List Set). store_of axes (coords_in_use s) (λ x. get_or l x []) (packed_of 0 s).finals) (sets-are s)

  shared-rule : Ruled (groups_said s) (shared (length s.used) s.sets).groups (length (shared (length s.used) s.sets).log)
      (shared (length s.used) s.sets).weighed (shared (length s.used) s.sets).before (shared (length s.used) s.sets).after
  unfolding shared
  shared-rule = ruled (groups_said s)

  report-rule : (axes : ℕ) (r : Report) → r ≡ report_of axes (coords_in_use s) (packed_of 0 s) → Ruled (groups_said s) r.groups r.merges r.weighed r.before r.after
  unfolding report_of
  report-rule axes r e =
      subst (λ (t : Report). Ruled (groups_said s) t.groups t.merges t.weighed t.before t.after) (sym e)
      (subst (λ (p : Packed). Ruled (groups_said s) p.groups (length p.log) p.weighed p.before p.after) (sym (shared-is s)) shared-rule)

-- a build in mode 0
module _ (c : Lending) (r : Report) (a : Accepted c r) (m : c.mode ≡ 0) where
  packed-here : packed_in c a.said ≡ packed_of 0 a.said
  packed-here = packed-is c a.said m

  ruled-here : Ruled (groups_said a.said) r.groups r.merges r.weighed r.before r.after
  ruled-here = report-rule a.said c.axes r (a.report-is ∙ ap (report_of c.axes (coords_in_use a.said)) packed-here)

  log-is-here : (packed_in c a.said).log ≡ (merged (groups_said a.said)).log
  log-is-here = ap (λ (p : Packed). p.log) packed-here ∙ log-is-rule a.said

  origins-are-here : (packed_in c a.said).origins ≡ origins_of (groups_said a.said)
  origins-are-here = ap (λ (p : Packed). p.origins) packed-here ∙ origins-of a.said

  tables-of : r.subtables ≡ length (all_runs (packed_of 0 a.said).finals)
  tables-of = unfold report_of in ap (λ (t : Report). t.subtables) a.report-is ∙ ap (λ (p : Packed). length (all_runs p.finals)) packed-here

  demand : Demand3 c r
  demand = record {
    said = a.said;
    said-is = a.said-is;
    rule = ruled-here;
    no-fold = λ j p e. merging.no-fold (length a.said.used) j (groups_said a.said) (groups-proper (length a.said.used) a.said.sets) p e;
    log-front = log-front c r a ∙ ap words log-is-here;
    origins-front = origins-front c r a ∙ ap (origin_words 0) origins-are-here;
    finals-are = finals-living a.said;
    written = store-front c r a ∙ ap (store_for c.axes (coords_in_use a.said)) packed-here ∙ store-of a.said c.axes;
    subtables-are = tables-of;
  }

-- THE LAW
pub demand3 : (c : Lending) (r : Report) → c.mode ≡ 0 → answer_of c ≡ Done r → Demand3 c r
demand3 c r m e = demand c r (accepted c r e) m

-- ---- mode 1

own_is : (s : Said) → packed_of 1 s ≡ own (length s.used) s.sets
unfolding packed_of
own_is s = refl

report-own : (axes : ℕ) (s : Said) (r : Report) → r ≡ report_of axes (coords_in_use s) (packed_of 1 s)
    → (r.groups ≡ 0) × (r.merges ≡ 0) × (r.weighed ≡ 0) × (r.before ≡ one_cost (length s.used) s.sets) × (r.after ≡ one_cost (length s.used) s.sets)
unfolding report_of own
report-own axes s r e =
    let k = own_is s in (
      ap (λ (t : Report). t.groups) e ∙ ap (λ (p : Packed). p.groups) k,
      ap (λ (t : Report). t.merges) e ∙ ap (λ (p : Packed). length p.log) k,
      ap (λ (t : Report). t.weighed) e ∙ ap (λ (p : Packed). p.weighed) k,
      ap (λ (t : Report). t.before) e ∙ ap (λ (p : Packed). p.before) k,
      ap (λ (t : Report). t.after) e ∙ ap (λ (p : Packed). p.after) k,
    )

own-log : (s : Said) (log : List ℕ) → over log 0 (length (words (packed_of 1 s).log)) (words (packed_of 1 s).log) ≡ log
unfolding own words
own-log s log = ap (λ (p : Packed). over log 0 (length (words p.log)) (words p.log)) (own_is s)

own-origins : (s : Said) (origins : List ℕ) → over origins 0 (length (origin_words 0 (packed_of 1 s).origins)) (origin_words 0 (packed_of 1 s).origins) ≡ origins
unfolding own origin_words
own-origins s origins = ap (λ (p : Packed). over origins 0 (length (origin_words 0 p.origins)) (origin_words 0 p.origins)) (own_is s)

pub no-merging : (c : Lending) (r : Report) → c.mode ≡ 1 → answer_of c ≡ Done r → NoMerging c r
no-merging c r m e =
    let a = accepted c r e in
    let p : packed_in c a.said ≡ packed_of 1 a.said = ap (λ (k : ℕ). packed_of k a.said) m in
    let t = report-own c.axes a.said r (a.report-is ∙ ap (report_of c.axes (coords_in_use a.said)) p) in
    record {
      said = a.said;
      said-is = a.said-is;
      no-groups = t.0;
      no-merges = t.1;
      no_pairs = t.2;
      before-is = t.3;
      after_is = t.4;
      origins-kept = origins-is c r a ∙ ap (λ (k : Packed). over c.lent.origins 0 (length (origin_words 0 k.origins)) (origin_words 0 k.origins)) p ∙ own-origins a.said c.lent.origins;
      log-kept = log_is c r a ∙ ap (λ (k : Packed). over c.lent.log 0 (length (words k.log)) (words k.log)) p ∙ own-log a.said c.lent.log;
    }
