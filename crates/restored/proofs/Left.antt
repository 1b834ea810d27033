-- THE THEOREM of #105, by what a done build leaves in out, ids and map. Assumes nothing.
use mathlib.Core.Path.{◌≡◌, sym, ap, subst, ◌∙◌}
use mathlib.Core.Bool.{true}
use mathlib.Core.List.{List}
use Prim.Native.Nat.{ℕ, ◌+◌, ◌*◌, ◌/◌, ◌%◌, ◌≤◌, ◌<◌}
use native.Mathlib.Omega.{arith}
use lib.ListN.{length, get_or, take}
use Rattle.groups.specs.Groups.{max_shapes}
use Rattle.stores.specs.Stores.{Parsed, parse}
use Rattle.stores.specs.Coordinates.{is_row_there}
use Rattle.store.specs.Placing.{all_runs, id_words, stored}
use Rattle.said.specs.Refusals.{job_work, pair_records}
use Rattle.said.specs.Job.{Said, fine}
use Rattle.finishing.specs.Answers.{Done}
use Rattle.finishing.specs.declared.answers.Report.{Report}
use Rattle.pairs.specs.declared.Pair.{Pair}
use Rattle.finishing.specs.Buffers.{Buffers}
use Rattle.finishing.specs.Late.{store_for}
use Rattle.call.specs.Lending.{Lending}
use Rattle.call.specs.Build.{coords_in_use, packed_of, answer_of, after}
use Rattle.accepted.proofs.Accepted.{Accepted, accepted, map_is, store-front, id-at}
use Rattle.accepted.proofs.PastLaws.{ids-long}
use Rattle.recovering.specs.Recovering.{row_no, job_of, said_of}
use Rattle.recovering.proofs.Sound.{Takes, job-says, job-sound, there}
use Rattle.recovering.proofs.Rows.{rows_at, rows-count}
use Rattle.restored.specs.Restored.{built, new_store, id_of, Back, word_for, RowRestored}
use Rattle.restored.proofs.Theorem.{new-parsed, row_back, again}

module _ (p : Parsed) (t : Takes p) (work : List ℕ) (pairs : List Pair) (lent : Buffers) (w : job_work p.axes (job_of p) ≤ length work) (q : pair_records ≤ length pairs) (r : Report) where
  abbrev c : Lending
  c = again p t work pairs lent w q

  module _ (e : answer_of (again p t work pairs lent w q) ≡ Done r) where
    a : Accepted (again p t work pairs lent w q) r
    a = accepted (again p t work pairs lent w q) r e

    -- the job says what the store's rows do
    said-is : a.said ≡ said_of p
    said-is =
        let f : fine a.said ≡ fine (said_of p) = sym a.said-is ∙ (job-sound p t (length work) (length pairs) w q).0 in
        cc

    few : (built p).groups ≤ max_shapes
    few = subst (λ (s : Said). (packed_of 0 s).groups ≤ max_shapes) said-is a.room.shapes-few

    map-fits : length (built p).sets ≤ length lent.map
    map-fits = subst (λ (s : Said). length (packed_of 0 s).sets ≤ length lent.map) said-is a.room.map-fits

    front : take r.bytes (after (again p t work pairs lent w q)).lent.out ≡ new_store p
    front = store-front (again p t work pairs lent w q) r a ∙ ap (λ (s : Said). store_for p.axes (coords_in_use s) (packed_of 0 s)) said-is

    map-left : (after (again p t work pairs lent w q)).lent.map ≡ stored (id_words 0 (all_runs (built p).finals)) lent.map
    map-left = map_is (again p t work pairs lent w q) r a ∙ ap (λ (s : Said). stored (id_words 0 (all_runs (packed_of 0 s).finals)) lent.map) said-is

    module _ (o i : ℕ) (h : is_row_there p o i ≡ true) where
      row_in : row_no p.tables o i < length (said_of p).sets
      row_in = omega (arith, (rows_at p.tables o i (there p t o i h)).0, rows-count p.tables, (job-says p t).sets-count)

      id-in : row_no p.tables o i < length (packed_of 0 a.said).ids
      id-in = subst (λ (s : Said). row_no p.tables o i < length (packed_of 0 s).ids) (sym said-is) (omega (arith, row_in, ids-long 0 (said_of p)))

      id_left : get_or (after (again p t work pairs lent w q)).lent.ids (row_no p.tables o i) 0 ≡ id_of p o i
      id_left = id-at (again p t work pairs lent w q) r a (row_no p.tables o i) id-in ∙ ap (λ (s : Said). get_or (packed_of 0 s).ids (row_no p.tables o i) 0) said-is

      word-left : (n : Parsed) (b : Back p n o i) → word_for p (after (again p t work pairs lent w q)).lent o i ≡ b.outer * 65536 + b.inner
      word-left n b =
          ap (λ (k : ℕ). get_or (after (again p t work pairs lent w q)).lent.map k 0) id_left
          ∙ ap (λ (m : List ℕ). get_or m (id_of p o i) 0) map-left
          ∙ b.word-is lent.map map-fits

      -- THE THEOREM
      pub row-restored : RowRestored p (after (again p t work pairs lent w q)).lent r.bytes o i
      row-restored =
          let b = row_back p t few o i h in
          let x = word-left _ b in
          let u : word_for p (after (again p t work pairs lent w q)).lent o i / 65536 ≡ b.outer = omega (arith, b.inner_below) in
          let v : word_for p (after (again p t work pairs lent w q)).lent o i % 65536 ≡ b.inner = omega (arith, b.inner_below) in
          record {
            store = _;
            parsed = ap parse front ∙ new-parsed p t few;
            there = rw (u, v) b.there;
            same = λ c. rw (u, v) (b.same c);
          }
