-- What a done build leaves as it was: in each buffer all that stands behind what is written. Assumes nothing.
use mathlib.Core.Path.{◌≡◌, refl, sym, ap, ◌∙◌}
use mathlib.Core.List.{List, [], ◌∷◌, map}
use Prim.Native.Nat.{ℕ, ◌+◌, ◌*◌, ◌<◌}
use native.Mathlib.Omega.{arith}
use lib.Dec.{eqb}
use lib.ListN.{length, get_or, set, drop}
use lib.Seq.{drop_at, drop-set-lt}
use Rattle.laws.specs.Pick.{pick}
use Rattle.laws.specs.Every.{All}
use Rattle.laws.specs.Bytes.{over}
use Rattle.laws.specs.Sorting.{sorted}
use Rattle.laws.proofs.Cases.{Which, which}
use Rattle.laws.proofs.Cases.Which.{holds, fails}
use Rattle.laws.proofs.EveryLaws.{all, all_map, all-unmap}
use Rattle.laws.proofs.SortMap.{keep_all}
use Rattle.laws.proofs.UpLaws.{up-long, up-all}
use Rattle.sets.specs.Set.{Set}
use Rattle.sets.specs.Ids.{distinct}
use Rattle.groups.specs.Groups.{groups_of}
use Rattle.rule.specs.Model.{Living, merged}
use Rattle.rule.specs.Told.{words}
use Rattle.store.specs.Placing.{Final, all_runs, id_words, stored}
use Rattle.said.specs.Job.{Said}
use Rattle.encoder.specs.Packed.{Packed, dense, belongs, final_of, is_ahead, finals_of, shared, own}
use Rattle.encoder.proofs.DenseIds.{dense-below, ids-length}
use Rattle.finishing.specs.declared.answers.Report.{Report}
use Rattle.finishing.specs.Late.{origin_words, report_of}
use Rattle.rule.proofs.Theorems.{words-length}
use Rattle.call.specs.Lending.{Lending}
use Rattle.call.specs.Build.{packed_of, after}
use Rattle.accepted.proofs.ManyLaws.{all_join}
use Rattle.accepted.proofs.RunSound.{runs-rows, words-ids}
use Rattle.accepted.proofs.Accepted.{Accepted, packed_in, store_in, bytes-are, merges-are, out-is, ids-is, map_is, log_is, origins-is, origins-long}

-- ---- one buffer

past-over : (old new : List ℕ) (n : ℕ) → n ≡ length new → drop n (over old 0 (length new) new) ≡ drop n old
past-over old new n e =
    let z : 0 + length new ≡ n = omega arith in
    drop_at new (drop (0 + length new) old) n (sym e) ∙ ap (λ (k : ℕ). drop k old) z

past-stored : (n : ℕ) (l : List (ℕ × ℕ)) (m : List ℕ) → All (λ (e : ℕ × ℕ). e.0 < n) l → drop n (stored l m) ≡ drop n m
unfolding stored
past-stored n [] m h = refl
past-stored n (e ∷ l) m h = past-stored n l (set m e.0 e.1) h.1 ∙ drop-set-lt n m e.0 e.1 h.0

-- ---- each row's id is below the number of ids

abbrev Below : Packed → Type 0
Below k = All (λ (g : Final). All (λ x. x < length k.sets) g.ids) k.finals

shared-below : (regions : ℕ) (jobs : List Set) → Below (shared regions jobs)
unfolding shared finals_of final_of
shared-below regions jobs =
    let groups = groups_of regions jobs in
    let n = length (distinct jobs) in
    let line = sorted is_ahead (merged groups).living in
    all_map (λ (g : Final). All (λ x. x < n) g.ids) (final_of regions groups (distinct jobs)) line
    (all (λ (g : Living). keep_all (λ x. belongs regions groups g (get_or (distinct jobs) x [])) (λ x. x < n) (dense (distinct jobs)) (dense-below (distinct jobs))) line)

own_below : (regions : ℕ) (jobs : List Set) → Below (own regions jobs)
unfolding own
own_below regions jobs = (up-all (length jobs), tt)

shared_long : (regions : ℕ) (jobs : List Set) → length (shared regions jobs).ids ≡ length jobs
unfolding shared
shared_long regions jobs = ids-length jobs

own-long : (regions : ℕ) (jobs : List Set) → length (own regions jobs).ids ≡ length jobs
unfolding own
own-long regions jobs = up-long (length jobs)

module _ (mode : ℕ) (s : Said) where
  abbrev one : Packed
  one = shared (length s.used) s.sets

  abbrev other : Packed
  other = own (length s.used) s.sets

  packed-below : Below (packed_of mode s)
  unfolding packed_of
  packed-below = go (which (eqb mode 0))
    where
      go : Which (eqb mode 0) → Below (pick (eqb mode 0) one other)
      go (holds e) = rw e (shared-below (length s.used) s.sets)
      go (fails e) = rw e (own_below (length s.used) s.sets)

  -- an id for each set
  pub ids-long : length (packed_of mode s).ids ≡ length s.sets
  unfolding packed_of
  ids-long = go (which (eqb mode 0))
    where
      go : Which (eqb mode 0) → length (pick (eqb mode 0) one other).ids ≡ length s.sets
      go (holds e) = rw e (shared_long (length s.used) s.sets)
      go (fails e) = rw e (own-long (length s.used) s.sets)

words-below : (k : Packed) → Below k → All (λ (e : ℕ × ℕ). e.0 < length k.sets) (id_words 0 (all_runs k.finals))
words-below k h =
    all-unmap (λ x. x < length k.sets) (λ (e : ℕ × ℕ). e.0) (id_words 0 (all_runs k.finals))
    (rw (words-ids 0 (all_runs k.finals), runs-rows k.finals)
    (all_join (λ x. x < length k.sets) (map (λ (g : Final). g.ids) k.finals)
    (all_map (λ (l : List ℕ). All (λ x. x < length k.sets) l) (λ (g : Final). g.ids) k.finals h)))

-- ---- a done build

module _ (c : Lending) (r : Report) (a : Accepted c r) where
  pub count-ids : r.ids ≡ length (packed_in c a.said).sets
  unfolding report_of
  count-ids = ap (λ (t : Report). t.ids) a.report-is

  -- behind the store
  pub out-past : drop r.bytes (after c).lent.out ≡ drop r.bytes c.lent.out
  out-past = ap (drop r.bytes) (out-is c r a) ∙ past-over c.lent.out (store_in c a.said) r.bytes (bytes-are c r a)

  -- behind an id for each set
  pub ids-past : (n : ℕ) → n ≡ length a.said.sets → drop n (after c).lent.ids ≡ drop n c.lent.ids
  ids-past n e =
      ap (drop n) (ids-is c r a) ∙ past-over c.lent.ids (packed_in c a.said).ids n (e ∙ sym (ids-long c.mode a.said))

  -- behind a word for each id
  pub map-past : drop r.ids (after c).lent.map ≡ drop r.ids c.lent.map
  map-past =
      ap (drop r.ids) (map_is c r a)
      ∙ past-stored r.ids (id_words 0 (all_runs (packed_in c a.said).finals)) c.lent.map
      (rw count-ids (words-below (packed_in c a.said) (packed-below c.mode a.said)))

  -- behind three words a merge
  pub log-past : drop (3 * r.merges) (after c).lent.log ≡ drop (3 * r.merges) c.lent.log
  log-past =
      ap (drop (3 * r.merges)) (log_is c r a)
      ∙ past-over c.lent.log (words (packed_in c a.said).log) (3 * r.merges) (omega (arith, merges-are c r a, words-length (packed_in c a.said).log))

  -- behind two words a starting group
  pub origins-past : drop (2 * r.groups) (after c).lent.origins ≡ drop (2 * r.groups) c.lent.origins
  origins-past =
      ap (drop (2 * r.groups)) (origins-is c r a)
      ∙ past-over c.lent.origins (origin_words 0 (packed_in c a.said).origins) (2 * r.groups) (origins-long c r a)
