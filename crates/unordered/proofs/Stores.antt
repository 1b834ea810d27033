-- Packed sets that differ by the numbers of the sets alone have one store, one report, and one map word for each set. Assumes nothing.
use mathlib.Core.Path.{◌≡◌, sym, ap, ◌∙◌}
use mathlib.Core.List.{List, [], map}
use Prim.Native.Nat.{ℕ, ◌≤◌, ◌<◌}
use native.Mathlib.Omega.{arith}
use lib.ListN.{length, get_or, length-map}
use Rattle.laws.specs.Every.{All, EachTwo}
use Rattle.laws.proofs.EveryLaws.{all-imp}
use Rattle.laws.proofs.ListLaws.{get_or-map-in}
use Rattle.store.specs.Placing.{Final, all_runs, id_words, kept_of, store_of, forecast_of, stored}
use Rattle.readback.proofs.MapBack.{map_at}
use Rattle.encoder.specs.Packed.{Packed}
use Rattle.encoder.specs.Lent.{relabel}
use Rattle.finishing.specs.Late.{store_for, regions_kept, report_of}
use Rattle.finishing.proofs.StoreLaws.{runs-relabel, runs-count, kept-relabel, forecast-relabel, store-relabel}
use Rattle.accepted.proofs.PackedLaws.{WellPacked}
use Rattle.accepted.proofs.RunSound.{Spot, id-spot, ids-once}
use Rattle.unordered.proofs.Rows.{Renamed}

abbrev none : Final
none = record { shape = []; ids = [] }

-- ---- groups with other numbers for their sets

module _ (f : ℕ → ℕ) (rs : List Final) where
  relabel-long : length (relabel f rs) ≡ length rs
  unfolding relabel
  relabel-long = length-map rs (λ (g : Final). record { shape = g.shape; ids = map f g.ids })

  relabel-ids : (outer : ℕ) → outer < length rs → (get_or (relabel f rs) outer none).ids ≡ map f (get_or rs outer none).ids
  unfolding relabel
  relabel-ids outer h = ap (λ (g : Final). g.ids) (get_or-map-in (λ (g : Final). record { shape = g.shape; ids = map f g.ids }) rs outer none none h)

  -- the row of x is that of f x
  relabel-spot : (x : ℕ) (p : Spot rs x) → (p.inner < length (get_or (relabel f rs) p.outer none).ids) × (get_or (get_or (relabel f rs) p.outer none).ids p.inner 0 ≡ f x)
  relabel-spot x p =
      let l = (get_or rs p.outer none).ids in
      let e = relabel-ids p.outer p.outer_below in (
        omega (arith, ap length e, length-map l f, p.inner_below),
        ap (λ (m : List ℕ). get_or m p.inner 0) e ∙ get_or-map-in f l p.inner 0 0 p.inner_below ∙ ap f p.is,
      )

-- so the map has one word for both
word-relabel : (f : ℕ → ℕ) (rs rs' : List Final) (m m' : List ℕ) (x : ℕ) → rs' ≡ relabel f rs → Spot rs x
    → EachTwo (λ (a b : ℕ × ℕ). b.0 ≡ a.0 → ⊥) (id_words 0 rs) → EachTwo (λ (a b : ℕ × ℕ). b.0 ≡ a.0 → ⊥) (id_words 0 rs')
    → x < length m → f x < length m' → get_or (stored (id_words 0 rs) m) x 0 ≡ get_or (stored (id_words 0 rs') m') (f x) 0
word-relabel f rs rs' m m' x e p once once' h h' =
    let o = p.outer in
    let i = p.inner in
    let q = relabel-spot f rs x p in
    let at : get_or (get_or rs' o none).ids i 0 ≡ f x = ap (λ (l : List Final). get_or (get_or l o none).ids i 0) e ∙ q.1 in
    let below : i < length (get_or rs' o none).ids = omega (arith, ap (λ (l : List Final). length (get_or l o none).ids) e, q.0) in
    let one = map_at rs m o i once p.outer_below p.inner_below (omega (arith, p.is)) in
    let two = map_at rs' m' o i once' (omega (arith, ap length e, relabel-long f rs, p.outer_below)) below (omega arith) in
    ap (λ (y : ℕ). get_or (stored (id_words 0 rs) m) y 0) (sym p.is) ∙ one ∙ sym two ∙ ap (λ (y : ℕ). get_or (stored (id_words 0 rs') m') y 0) at

-- ---- packed sets

module _ (regions : ℕ) (f : ℕ → ℕ) (k m : Packed) (r : Renamed f k m) (good : WellPacked regions k) (good' : WellPacked regions m) where
  below_all : All (λ (g : Final). All (λ x. x < length k.sets) g.ids) k.finals
  below_all = all-imp (λ (g : Final) h. all-imp (λ x c. c.0) g.ids h) k.finals good.covers

  pub store_same : (axes : ℕ) (coords : List (List ℕ)) → store_for axes coords k ≡ store_for axes coords m
  unfolding store_for
  store_same axes coords =
      store-relabel axes coords f (λ x. get_or k.sets x []) (λ x. get_or m.sets x []) (length k.sets) k.finals below_all r.sets-are
      ∙ ap (store_of axes coords (λ x. get_or m.sets x [])) r.finals-are

  runs-are : all_runs m.finals ≡ relabel f (all_runs k.finals)
  runs-are = ap all_runs (sym r.finals-are) ∙ runs-relabel f k.finals

  kept_same : (coords : List (List ℕ)) → regions_kept coords k ≡ regions_kept coords m
  unfolding regions_kept
  kept_same coords = ap length (sym (kept-relabel (length coords) f k.finals) ∙ ap (kept_of (length coords)) r.finals-are)

  forecast-same : (axes : ℕ) (coords : List (List ℕ)) → forecast_of axes (regions_kept coords k) k.finals ≡ forecast_of axes (regions_kept coords m) m.finals
  forecast-same axes coords =
      sym (forecast-relabel axes (regions_kept coords k) f k.finals)
      ∙ ap (forecast_of axes (regions_kept coords k)) r.finals-are
      ∙ ap (λ (n : ℕ). forecast_of axes n m.finals) (kept_same coords)

  pub report-same : (axes : ℕ) (coords : List (List ℕ)) → report_of axes coords k ≡ report_of axes coords m
  unfolding report_of
  report-same axes coords =
      let bytes-are : length (store_for axes coords k) ≡ length (store_for axes coords m) = ap length (store_same axes coords) in
      let runs : length (all_runs k.finals) ≡ length (all_runs m.finals) = sym (runs-count f k.finals) ∙ ap (λ (gs : List Final). length (all_runs gs)) r.finals-are in
      let kept = kept_same coords in
      let merges-are : length k.log ≡ length m.log = ap length r.log_is in
      let forecasts = forecast-same axes coords in
      (λ i. record {
        bytes = bytes-are i;
        subtables = runs i;
        regions = kept i;
        ids = r.count-is i;
        groups = r.groups-are i;
        merges = merges-are i;
        weighed = r.weighed-is i;
        before = r.before-is i;
        after = r.after_is i;
        forecast = forecasts i;
      })

  -- the map word of id x, and that of the id which the same set has in the other
  pub word_same : (old old' : List ℕ) (x : ℕ) → x < length k.sets → length k.sets ≤ length old → length m.sets ≤ length old'
      → get_or (stored (id_words 0 (all_runs k.finals)) old) x 0 ≡ get_or (stored (id_words 0 (all_runs m.finals)) old') (f x) 0
  word_same old old' x h fits fits' =
      word-relabel f (all_runs k.finals) (all_runs m.finals) old old' x runs-are (id-spot regions k good x h) (ids-once regions k good) (ids-once regions m good')
      (omega arith) (omega (arith, r.below x h))
