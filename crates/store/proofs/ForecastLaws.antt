-- The forecast is the length of the store: each run by the bytes that its subtable is, the region list by its
-- coordinates. Assumes nothing.
use mathlib.Core.Path.{◌≡◌, refl, sym, ap, ◌∙◌}
use mathlib.Core.List.{List, [], ◌∷◌, ◌++◌, map}
use mathlib.Core.Logic.{⊎_elim}
use Prim.Native.Nat.{ℕ, zero, suc, ◌+◌, ◌*◌, ◌<◌}
use native.Mathlib.Nat.{mul_comm}
use native.Mathlib.Omega.{arith}
use lib.ListN.{length, get_or, take, drop, length-append, length-map}
use borrow.Author.Tests.{eq-eqb, ne_eqb}
use Rattle.laws.specs.Bag.{weigh}
use Rattle.laws.specs.Bytes.{bytes_of}
use Rattle.laws.specs.Bounded.{tabulate, up_to}
use Rattle.laws.specs.Every.{All}
use Rattle.laws.specs.Joining.{join_all}
use Rattle.laws.proofs.BytesLaws.{bytes-length}
use Rattle.laws.proofs.Cases.{same_or_not}
use Rattle.laws.proofs.EveryLaws.{all-imp, all_map, all_append, all-get_or}
use Rattle.laws.proofs.JoinLaws.{join-long}
use Rattle.laws.proofs.SortMap.{keep_all}
use Rattle.laws.proofs.UpLaws.{up-all}
use Rattle.shapes.specs.Group.{max_items}
use Rattle.rows.specs.Columns.{columns_of}
use Rattle.rows.specs.Row.{Set}
use Rattle.rows.specs.Subtable.{run_count_for}
use Rattle.store.specs.Placing.{Final, runs_of, all_runs, names, kept_of, new_index, store_of, row_bytes, run_bytes, forecast_of}
use Rattle.store.specs.Lent.{header_bytes, spots_of, subtable_of}
use Rattle.store.proofs.ListLaws.{list_length}
use Rattle.store.proofs.SpotLaws.{spots-length}
use Rattle.store.proofs.SizeLaws.{size_none, size-some}
use Rattle.store.proofs.TableLaws.{sub-length}
use Rattle.store.proofs.Pieces.{pieces, list_of, store-pieces}

-- ---- runs

-- shapes so short that a word count says its columns
abbrev pub Short : Final → Type 0
Short g = length g.shape < 32768

runs-short : (gs : List Final) → All Short gs → All Short (all_runs gs)
unfolding all_runs join_all runs_of tabulate
runs-short [] h = tt
runs-short (g ∷ gs) h = all_append Short (runs_of g) (all_runs gs) (go 0 (run_count_for (length g.ids))) (runs-short gs h.1)
  where
    go : (a n : ℕ) → All Short (tabulate a n (λ k. record { shape = g.shape; ids = take max_items (drop (max_items * k) g.ids) }))
    go a zero = tt
    go a (suc n) = (h.0, go (suc a) n)

module _ (number : ℕ → ℕ) (set : ℕ → Set) where
  abbrev table_of : Final → List ℕ
  table_of r = subtable_of number set r.shape r.ids

  -- an offset, and the subtable
  run_long : (r : Final) → Short r → run_bytes r ≡ 4 + length (table_of r)
  unfolding run_bytes
  run_long r h =
      let n = length (columns_of r.shape) in
      let row = row_bytes r.shape in
      let l = sub-length number set r.shape r.ids h in
      ⊎_elim
      (λ (e : length r.ids ≡ 0). rw (eq-eqb (length r.ids) 0 e) (omega (arith, size_none n row (length r.ids) e)))
      (λ d. rw (ne_eqb (length r.ids) 0 d) (omega (arith, size-some n row (length r.ids) d)))
      (same_or_not (length r.ids) 0)

  runs-long : (rs : List Final) → All Short rs → weigh run_bytes rs ≡ 4 * length (map table_of rs) + length (join_all (map table_of rs))
  unfolding weigh join_all
  runs-long [] h = refl
  runs-long (r ∷ rs) h = omega (arith, run_long r h.0, runs-long rs h.1, length-append (table_of r) (join_all (map table_of rs)))

-- ---- the pieces

header-long : (n : ℕ) → length (header_bytes n) ≡ 8
header-long n = length-append (bytes_of 2 1) (bytes_of 4 (8 + 4 * n) ++ bytes_of 2 n)
    ∙ omega (arith, length-append (bytes_of 4 (8 + 4 * n)) (bytes_of 2 n), bytes-length 2 1, bytes-length 4 (8 + 4 * n), bytes-length 2 n)

pieces-long : (list : List ℕ) (ts : List (List ℕ)) → length (pieces list ts) ≡ 8 + 4 * length ts + length list + length (join_all ts)
pieces-long list ts =
    let sizes = map (λ (t : List ℕ). length t) ts in
    let first = 8 + 4 * length ts + length list in
    length-append (header_bytes (length ts)) (spots_of first sizes ++ (list ++ join_all ts))
    ∙ omega (arith, header-long (length ts), length-append (spots_of first sizes) (list ++ join_all ts), spots-length first sizes, length-map ts (λ (t : List ℕ). length t), length-append list (join_all ts))

-- ---- THE LAW

module _ (axes : ℕ) (coords : List (List ℕ)) (set : ℕ → Set) (gs : List Final) (whole : All (λ (c : List ℕ). length c ≡ 6 * axes) coords) (short : All Short gs) where
  abbrev kept : List ℕ
  kept = kept_of (length coords) gs

  abbrev list : List (List ℕ)
  list = map (λ r. get_or coords r []) (kept_of (length coords) gs)

  list-whole : All (λ (c : List ℕ). length c ≡ 6 * axes) list
  list-whole =
      all_map (λ (c : List ℕ). length c ≡ 6 * axes) (λ r. get_or coords r []) kept
      (keep_all (λ r. names r gs) (λ r. length (get_or coords r []) ≡ 6 * axes) (up_to (length coords))
      (all-imp (λ r h. all-get_or (λ (c : List ℕ). length c ≡ 6 * axes) coords r [] whole h) (up_to (length coords)) (up-all (length coords))))

  list-long : length (list_of axes coords gs) ≡ 4 + 6 * axes * length kept
  list-long =
      let e = ap (λ (n : ℕ). n * (6 * axes)) (length-map kept (λ r. get_or coords r [])) in
      omega (arith, list_length axes (length kept) (join_all list), join-long (6 * axes) list list-whole, mul_comm (length kept) (6 * axes))

  pub forecast-exact : forecast_of axes (length (kept_of (length coords) gs)) gs ≡ length (store_of axes coords set gs)
  unfolding forecast_of
  forecast-exact =
      let ts = map (table_of (new_index gs) set) (all_runs gs) in
      sym (ap length (store-pieces axes coords set gs)
      ∙ omega (arith, pieces-long (list_of axes coords gs) ts, list-long, runs-long (new_index gs) set (all_runs gs) (runs-short gs short)))
