-- What is known of a build in mode 0 that is done: what its job says is well formed, its report is that of the packed sets, and what then lies in
-- output, ids, map and log. Assumes nothing.
use mathlib.Core.Path.{◌≡◌, refl, sym, ap, subst, ◌∙◌}
use mathlib.Core.List.{List, []}
use Prim.Native.Nat.{ℕ, ◌*◌, ◌/◌, ◌≤◌, ◌<◌}
use native.Mathlib.Omega.{arith}
use lib.ListN.{length, get_or, take}
use Rattle.laws.specs.Every.{All}
use Rattle.laws.proofs.EveryLaws.{all-and}
use Rattle.sets.specs.Set.{Set, Ascending, Proper}
use Rattle.sets.specs.Ids.{place, distinct, shared_ids}
use Rattle.sets.proofs.IdLaws as ids
use Rattle.rule.specs.Told.{words}
use Rattle.store.specs.Placing.{all_runs, id_words, stored}
use Rattle.said.specs.Records.{record_bytes}
use Rattle.said.specs.Job.{Said, fine}
use Rattle.said.proofs.SoundLaws.{Bytes, WellSaid, well-said}
use Rattle.encoder.specs.Packed.{Packed, shared}
use Rattle.encoder.proofs.DenseIds.{ids-length}
use Rattle.finishing.specs.declared.answers.Report.{Report}
use Rattle.finishing.specs.Answers.{Done}
use Rattle.finishing.specs.Late.{store_for, origin_words, report_of}
use Rattle.call.specs.Lending.{Lending}
use Rattle.call.specs.Build.{coords_in_use, packed_of, outcome_of, answer_of, after}
use Rattle.accepted.proofs.PackedLaws.{WellPacked, shared-good}
use Rattle.accepted.proofs.Accepted.{Accepted, accepted, packed_in, map_is, store-front, log-front, id-at, shared-is, packed-is, origins-front}
use Rattle.unordered.proofs.Alike.{Fine}

-- ---- the packed sets of mode 0

shared-ids : (n : ℕ) (sets : List Set) → (shared n sets).ids ≡ shared_ids sets
unfolding shared
shared-ids n sets = refl

ids-are : (s : Said) → (packed_of 0 s).ids ≡ shared_ids s.sets
ids-are s = ap (λ (k : Packed). k.ids) (shared-is s) ∙ shared-ids (length s.used) s.sets

-- ---- a build that is done

pub record IsDone (axes : ℕ) (a : Lending) (s : Said) (c : Report) : Type 0 where
  pub fine-sets : All (Fine (length s.used)) s.sets
  pub good : WellPacked (length s.used) (packed_of 0 s)
  pub report-is : c ≡ report_of axes (coords_in_use s) (packed_of 0 s)
  pub map-room : length (packed_of 0 s).sets ≤ length a.lent.map
  pub store_is : take c.bytes (after a).lent.out ≡ store_for axes (coords_in_use s) (packed_of 0 s)
  pub log_is : take (3 * c.merges) (after a).lent.log ≡ words (packed_of 0 s).log
  pub origins-is : take (2 * c.groups) (after a).lent.origins ≡ origin_words 0 (packed_of 0 s).origins
  pub map_is : (after a).lent.map ≡ stored (id_words 0 (all_runs (packed_of 0 s).finals)) a.lent.map
  -- the id of set n is the place of that among the distinct ones
  pub id-is : (n : ℕ) → n < length s.sets → get_or (after a).lent.ids n 0 ≡ place (get_or s.sets n []) (distinct s.sets)

module _ (a : Lending) (c : Report) (mode : a.mode ≡ 0) (bytes : Bytes a.job) (z : Accepted a c) where
  packed-here : packed_in a z.said ≡ packed_of 0 z.said
  packed-here = packed-is a z.said mode

  ids-here : (packed_in a z.said).ids ≡ shared_ids z.said.sets
  ids-here = ap (λ (k : Packed). k.ids) packed-here ∙ ids-are z.said

  well : WellSaid a.axes a.job (length a.job / record_bytes) z.said
  well = well-said a.axes a.mode a.job (length a.job / record_bytes) z.said z.entered.some bytes z.walked

  id-at-set : (n : ℕ) → n < length z.said.sets → get_or (after a).lent.ids n 0 ≡ place (get_or z.said.sets n []) (distinct z.said.sets)
  id-at-set n h =
      id-at a c z n (omega (arith, ap length ids-here, ids-length z.said.sets))
      ∙ ap (λ (l : List ℕ). get_or l n 0) ids-here
      ∙ ids.id-at z.said.sets n h

  done-so : IsDone a.axes a z.said c
  done-so =
      let s = z.said in
      record {
        fine-sets = all-and (Ascending 0) (Proper (length s.used)) s.sets well.good.sets-rising well.good.sets-proper;
        good = subst (WellPacked (length s.used)) (sym (shared-is s)) (shared-good (length s.used) s.sets well.good.sets-proper well.words-low);
        report-is = z.report-is ∙ ap (report_of a.axes (coords_in_use s)) packed-here;
        map-room = subst (λ (k : Packed). length k.sets ≤ length a.lent.map) packed-here z.room.map-fits;
        store_is = store-front a c z ∙ ap (store_for a.axes (coords_in_use s)) packed-here;
        log_is = log-front a c z ∙ ap (λ (k : Packed). words k.log) packed-here;
        origins-is = origins-front a c z ∙ ap (λ (k : Packed). origin_words 0 k.origins) packed-here;
        map_is = map_is a c z ∙ ap (λ (k : Packed). stored (id_words 0 (all_runs k.finals)) a.lent.map) packed-here;
        id-is = id-at-set;
      }

-- THE LAW
pub is-done : (a : Lending) (s : Said) (c : Report) → a.mode ≡ 0 → Bytes a.job → outcome_of a ≡ fine s → answer_of a ≡ Done c → IsDone a.axes a s c
is-done a s c mode bytes e done =
    let z = accepted a c done in
    let f = z.said-is in
    let same : z.said ≡ s = cc in
    subst (λ (x : Said). IsDone a.axes a x c) same (done-so a c mode bytes z)
