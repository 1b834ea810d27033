-- Laws of packed sets in work: what writing asks of them is there, also once rows are ids. Assumes nothing.
use mathlib.Core.Path.{◌≡◌, ap, ◌∙◌}
use mathlib.Core.List.{List}
use Prim.Native.Nat.{ℕ, ◌+◌, ◌-◌, ◌*◌, ◌≤◌, ◌<◌}
use native.Mathlib.Omega.{arith}
use lib.ListN.{length, get_or}
use Rattle.laws.specs.Bytes.{over}
use Rattle.laws.specs.Every.{All}
use Rattle.laws.specs.LentRange.{seg}
use Rattle.laws.proofs.EveryLaws.{all-imp}
use Rattle.laws.proofs.RangeLaws.{all-seg, seg_all}
use Rattle.store.specs.Placing.{Final, all_runs, id_words, stored}
use Rattle.rows.specs.Lent.{Stored}
use Rattle.store.specs.Lent.{Handed, IdsBelow, Small, finals_at}
use Rattle.encoder.specs.declared.places.Places.{Places}
use Rattle.encoder.specs.declared.encoded.Encoded.{Encoded}
use Rattle.encoder.specs.Lent.{relabel}
use Rattle.finishing.specs.Lent.{OriginsFit, RowsNamed, WordsFit, WordsWritten, origins_told}
use Rattle.finishing.proofs.StoreLaws.{finals-named}

module _ {p : Places} {e : Encoded} {w : List ℕ} (fit : WordsFit p e w) where
  set-in : (x : ℕ) → x < p.sets → Stored 0 w x
  set-in x h =
      let k = fit.packed.held in
      record { row = omega (arith, k.rows, k.room); body = omega (arith, k.body x h, k.room) }

  module _ (g : ℕ) (h : g < e.count) where
    pub handed : Handed p.regions 0 w (p.finals + 3 * g)
    handed =
        let k = fit.packed in
        let f = k.finals-in g h in
        record {
          row = omega (arith, k.finals-to, k.rows-to);
          shape = omega (arith, f.shape-to, k.rows-to);
          ids = omega (arith, f.rows-to, k.rows-to);
          sets = all-imp set-in (seg (get_or w (p.finals + 3 * g + 1) 0) (get_or w (p.finals + 3 * g + 2) 0) w) f.numbers;
        }

    pub small : Small w (p.finals + 3 * g)
    small =
        let k = fit.packed in
        let f = k.finals-in g h in
        record { few = omega (arith, f.rows-from, f.rows-to, k.sets-few) }

  pub groups-to : p.finals + 3 * e.count ≤ length w
  groups-to = omega (arith, fit.packed.finals-to, fit.packed.rows-to)

  -- the tables that origins are written from
  pub origins-fit : OriginsFit p e.groups w
  origins-fit =
      let k = fit.packed in
      record {
        few = k.groups-few;
        order-to = omega (arith, k.order-to, k.rows-to);
        homes-to = λ i h. omega (arith, k.homes-to i h, k.rows-to);
      }

  -- ---- the rows by ids

  module _ {u : List ℕ} (named : RowsNamed p.rows p.sets p.ids w u) where
    kept_word : (k : ℕ) → k < p.rows → get_or u k 0 ≡ get_or w k 0
    kept_word k h = named.only.kept k (record { apart = λ q. absurd (omega arith) }, tt)

    pub long-named : length u ≡ length w
    long-named = named.only.long

    finals-are : finals_at p.regions p.finals e.count u ≡ relabel (λ x. get_or (seg p.ids p.sets w) x 0) (finals_at p.regions p.finals e.count w)
    finals-are = let k = fit.packed in finals-named p e.count w u named k.finals-in k.finals-to k.ids-to k.rows-to

    map-named : (m m' : List ℕ) → m' ≡ stored (id_words 0 (all_runs (finals_at p.regions p.finals e.count u))) m
        → m' ≡ stored (id_words 0 (all_runs (relabel (λ x. get_or (seg p.ids p.sets w) x 0) (finals_at p.regions p.finals e.count w)))) m
    map-named m m' q = q ∙ ap (λ (gs : List Final). stored (id_words 0 (all_runs gs)) m) finals-are

    set-named : (x : ℕ) → x < p.sets → Stored 0 u x
    set-named x h =
        let k = fit.packed.held in
        let b = fit.packed in
        let s = kept_word (0 + 2 * x) (omega (arith, k.rows, b.line-to, b.ids-to, b.finals-to)) in
        let c = kept_word (0 + 2 * x + 1) (omega (arith, k.rows, b.line-to, b.ids-to, b.finals-to)) in
        record { row = omega (arith, k.rows, k.room, long-named); body = omega (arith, k.body x h, k.room, long-named) }

    -- a word of a group's rows is an id
    module _ (g : ℕ) (h : g < e.count) where
      id_below : All (λ x. x < e.distinct) (seg (get_or u (p.finals + 3 * g + 1) 0) (get_or u (p.finals + 3 * g + 2) 0) u)
      id_below =
          let k = fit.packed in
          let f = k.finals-in g h in
          let a = kept_word (p.finals + 3 * g + 1) (omega (arith, k.finals-to)) in
          let c = kept_word (p.finals + 3 * g + 2) (omega (arith, k.finals-to)) in
          rw (a, c)
          (all-seg (λ x. x < e.distinct) (get_or w (p.finals + 3 * g + 2) 0) (get_or w (p.finals + 3 * g + 1) 0) u (omega (arith, f.rows-to, k.rows-to, long-named))
          (λ i l r. one i (omega (arith, f.rows-from)) (omega (arith, f.rows-to)) (seg_all (λ x. x < p.sets) (get_or w (p.finals + 3 * g + 2) 0) (get_or w (p.finals + 3 * g + 1) 0) w (omega (arith, f.rows-to, k.rows-to)) f.numbers i l r)))
        where
          one : (i : ℕ) → p.rows ≤ i → i < p.rows + p.sets → get_or w i 0 < p.sets → get_or u i 0 < e.distinct
          one i l r b =
              let s : p.rows + (i - p.rows) ≡ i = omega arith in
              let q : get_or u i 0 ≡ get_or w (p.ids + get_or w i 0) 0 = rw s at (named.at (i - p.rows) (omega arith) (rw s b)) in
              omega (arith, fit.ids-below (get_or w i 0) b)

      pub handed-named : Handed p.regions 0 u (p.finals + 3 * g)
      handed-named =
          let k = fit.packed in
          let f = k.finals-in g h in
          let z = kept_word (p.finals + 3 * g) (omega (arith, k.finals-to)) in
          let a = kept_word (p.finals + 3 * g + 1) (omega (arith, k.finals-to)) in
          let c = kept_word (p.finals + 3 * g + 2) (omega (arith, k.finals-to)) in
          record {
            row = omega (arith, k.finals-to, k.rows-to, long-named);
            shape = omega (arith, f.shape-to, k.rows-to, long-named);
            ids = omega (arith, f.rows-to, k.rows-to, long-named);
            sets = all-imp (λ x b. set-named x (omega (arith, k.distinct-few))) (seg (get_or u (p.finals + 3 * g + 1) 0) (get_or u (p.finals + 3 * g + 2) 0) u) id_below;
          }

      pub small-named : Small u (p.finals + 3 * g)
      small-named =
          let k = fit.packed in
          let c = kept_word (p.finals + 3 * g + 2) (omega (arith, k.finals-to)) in
          record { few = omega (arith, (small g h).few) }

      pub below-named : (long : ℕ) → e.distinct ≤ long → IdsBelow long u (p.finals + 3 * g)
      below-named long l = record { below = all-imp (λ x b. omega arith) (seg (get_or u (p.finals + 3 * g + 1) 0) (get_or u (p.finals + 3 * g + 2) 0) u) id_below }

    pub words-done : {ids map log origins ids' map' log' origins' : List ℕ} → ids' ≡ over ids 0 p.sets (seg p.ids p.sets w)
        → log' ≡ over log 0 (3 * e.merges) (seg p.log (3 * e.merges) w)
        → origins' ≡ over origins 0 (2 * e.groups) (origins_told p e.groups w)
        → map' ≡ stored (id_words 0 (all_runs (finals_at p.regions p.finals e.count u))) map
        → WordsWritten p e w ids map log origins ids' map' log' origins'
    words-done {map = map} {map' = map'} i l o m = record { ids-is = i; log_is = l; origins-is = o; map_is = map-named map map' m }
