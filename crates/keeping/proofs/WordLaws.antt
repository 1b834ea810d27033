-- The chosen words: their subtables, and what other words of work leave. Assumes nothing.
use mathlib.Core.Path.{◌≡◌, sym, ap, ◌∙◌}
use mathlib.Core.Bool.{true}
use mathlib.Core.List.{List, [], ◌∷◌}
use Prim.Native.Nat.{ℕ, zero, suc, ◌+◌, ◌-◌, ◌*◌, ◌/◌, ◌%◌, ◌≤◌, ◌<◌}
use native.Mathlib.Omega.{arith}
use lib.ListN.{length, get_or}
use Rattle.laws.specs.LentRange.{Only}
use Rattle.laws.proofs.Cases.{Tri, tri}
use Rattle.laws.proofs.Cases.Tri.{below, same, above}
use Rattle.reader.specs.Store.{item_count, region_count}
use Rattle.reader.proofs.StoreLaws.{header-fits}
use Rattle.stores.specs.Stores.{offset_at, store_at}
use Rattle.stores.specs.Dropping.{has}
use Rattle.stores.proofs.PartLaws.{be-two}
use Rattle.stores.proofs.WholeLaws.{Whole}
use Rattle.choosing.specs.Lent.{Within, Groups, ChosenAt}
use Rattle.choosing.proofs.GroupLaws.{starts-most}
use Rattle.cutting.specs.LentCut.{start_of, table_of, TableFit, StoreFit}
use Rattle.cutting.proofs.NameLaws.{has-place, has-at}
use Rattle.keeping.specs.Keeping.{all_there}
use Rattle.keeping.specs.LentKeep.{Words}
use Rattle.keeping.proofs.ThereLaws.{RowIs, row_is, there-at}

pub words : {rows old new : List ℕ} {k t : ℕ} → ChosenAt rows old new k t → Words rows new k t
words c = record { most = c.most; rising = c.rising; from = c.from; into = c.into; groups = c.groups }

groups-same : {W P S : ℕ → ℕ} {k t : ℕ} (W' P' S' : ℕ → ℕ) → Groups W P S k t → ((i : ℕ) → i < k → W' i ≡ W i) → ((i : ℕ) → i < k → P' i ≡ P i) → ((g : ℕ) → g ≤ t → S' g ≡ S g)
    → Groups W' P' S' k t
groups-same {W} {P} {S} {k} {t} W' P' S' gs a b c =
    let top : (g : ℕ) → g < t → S (g + 1) ≤ k = (λ g l. omega (arith, starts-most gs (g + 1) t (omega arith) (omega arith), gs.last)) in
    record {
      few = gs.few;
      first = c 0 (omega arith) ∙ gs.first;
      last = c t (omega arith) ∙ gs.last;
      up = λ g l. omega (arith, c g (omega arith), c (g + 1) (omega arith), gs.up g l);
      same = λ g j l p q.
          let s₀ = c g (omega arith) in
          let s₁ = c (g + 1) (omega arith) in
          let x = gs.same g j l (omega arith) (omega arith) in
          ap (λ (y : ℕ). y / 65536) (a j (omega (arith, top g l))) ∙ x ∙ sym (ap (λ (y : ℕ). y / 65536) (ap W' s₀ ∙ a (S g) (omega (arith, top g l, gs.up g l))));
      more = λ g l.
          let e = ap W' (c g (omega arith)) ∙ a (S g) (omega (arith, top g (omega arith), gs.up g (omega arith))) in
          let f = ap W' (c (g + 1) (omega arith)) ∙ a (S (g + 1)) (omega (arith, top (g + 1) l, gs.up (g + 1) l)) in
          omega (arith, gs.more g l, ap (λ (y : ℕ). y / 65536) e, ap (λ (y : ℕ). y / 65536) f);
      place = λ g j l p q.
          let s₀ = c g (omega arith) in
          let s₁ = c (g + 1) (omega arith) in
          omega (arith, b j (omega (arith, top g l)), gs.place g j l (omega arith) (omega arith));
      low = λ g j l p q.
          let s₀ = c g (omega arith) in
          let s₁ = c (g + 1) (omega arith) in
          let e = a j (omega (arith, top g l)) in
          let x = gs.low g j l (omega arith) (omega arith) in
          (rw e x.0, rw e (omega (arith, x.1)));
      at = λ j l.
          let x = gs.at j l in
          (x.0, x.1, omega (arith, x.2, c x.0 (omega (arith, x.1))), omega (arith, x.3, c (x.0 + 1) (omega (arith, x.1))));
    }

-- where only words behind them change
pub words-kept : {rows old new : List ℕ} {k t m : ℕ} → Only ((3 * length rows + 1, m) ∷ []) old new → Words rows old k t → Words rows new k t
words-kept {rows} {old} {new} {k} {t} o c =
    let n = length rows in
    let front : (i : ℕ) → i < 3 * n + 1 → get_or new i 0 ≡ get_or old i 0 = (λ i h. o.kept i (record { apart = λ x. absurd (omega arith) }, tt)) in
    let low : k ≤ n = c.most in
    let few : t ≤ k = c.groups.few in
    record {
      most = c.most;
      rising = record { up = λ i j p q. omega (arith, c.rising.up i j p q, front i (omega arith), front j (omega arith)) };
      from = λ a h. let q = c.from a h in (q.0, q.1, q.2 ∙ sym (front a (omega arith)));
      into = λ j h. let q = c.into j h in (q.0, q.1, front q.0 (omega (arith, q.1)) ∙ q.2);
      groups = groups-same (λ j. get_or new j 0) (λ j. get_or new (n + j) 0) (λ g. get_or new (2 * n + g) 0) c.groups
          (λ i h. front i (omega arith)) (λ i h. front (n + i) (omega arith)) (λ g h. front (2 * n + g) (omega arith));
    }

module _ {rows w : List ℕ} {k t : ℕ} (c : Words rows w k t) where
  abbrev n : ℕ
  n = length rows

  -- the number of the g-th subtable
  abbrev pub outer_of : ℕ → ℕ
  outer_of g = get_or w (start_of (length rows) w g) 0 / 65536

  pub start-in : (g : ℕ) → g < t → (start_of n w g < start_of n w (g + 1)) × (start_of n w (g + 1) ≤ k)
  start-in g l = (c.groups.up g l, omega (arith, starts-most c.groups (g + 1) t (omega arith) (omega arith), c.groups.last))

  outers-up : (g d : ℕ) → g + suc d < t → outer_of g < outer_of (g + suc d)
  outers-up g zero l = let z : g + suc 0 ≡ g + 1 = omega arith in rw z (c.groups.more g (omega arith))
  outers-up g (suc d) l =
      let z : g + suc (suc d) ≡ g + suc d + 1 = omega arith in
      rw z (omega (arith, outers-up g d (omega arith), c.groups.more (g + suc d) (omega arith)))

  pub outers-less : (g h : ℕ) → g < h → h < t → outer_of g < outer_of h
  outers-less g h p q = let e : g + suc (h - g - 1) ≡ h = omega arith in rw e at (outers-up g (h - g - 1) (omega arith))

  pub outers-same : (g h : ℕ) → g < t → h < t → outer_of g ≡ outer_of h → g ≡ h
  outers-same g h p q e = go (tri g h)
    where
      go : Tri g h → g ≡ h
      go (same x) = x
      go (below x) = absurd (omega (arith, outers-less g h x q))
      go (above x) = absurd (omega (arith, outers-less h g x p))

  -- used words are the chosen ones
  pub word-used : (a : ℕ) → a < k → has rows (get_or w a 0) ≡ true
  word-used a h = let q = c.from a h in rw q.2 at (has-at rows q.0 q.1)

  pub used-word : (x : ℕ) → has rows x ≡ true → Within k w x
  used-word x h =
      let j = has-place rows x h in
      let q = c.into j.0 j.1 in
      (q.0, q.1, q.2 ∙ j.2)

  module _ {s : List ℕ} (bytes : (i : ℕ) → get_or s i 0 < 256) (whole : Whole s) (there : all_there (store_at s) rows ≡ true) where
    -- a chosen word's row is there
    pub word_row : (a : ℕ) → a < k → RowIs s (get_or w a 0 / 65536) (get_or w a 0 % 65536)
    word_row a h =
        let q = c.from a h in
        row_is s whole (get_or w a 0 / 65536) (get_or w a 0 % 65536) (rw q.2 at (there-at (store_at s) rows there q.0 q.1))

    pub group-row : (g : ℕ) → g < t → RowIs s (outer_of g) (get_or w (start_of n w g) 0 % 65536)
    group-row g l = let b = start-in g l in word_row (start_of n w g) (omega (arith, b.0, b.1))

    table-fit : 3 * n + 1 ≤ length w → (g : ℕ) → g < t → TableFit s n w g
    unfolding table_of
    table-fit room g l =
        let b = start-in g l in
        let r = group-row g l in
        let f = header-fits s whole.header in
        let low : k ≤ n = c.most in
        let few : t ≤ k = c.groups.few in
        let inner : (j : ℕ) → start_of n w g ≤ j → j < start_of n w (g + 1) → get_or w j 0 % 65536 < item_count s (offset_at s (outer_of g)) = (λ j p q.
        let e = c.groups.same g j l p q in
        let y = word_row j (omega (arith, b.1)) in
        rw e at y.row) in
        record {
          starts = omega arith;
          up = b.0;
          top = omega (arith, b.1);
          offset-in = omega (arith, r.outer-in, f.offsets);
          good = r.good-table;
          few =
              let last = start_of n w (g + 1) - 1 in
              let y = c.groups.low g last l (omega (arith, b.0)) (omega (arith, b.0)) in
              omega (arith, y.1, inner last (omega (arith, b.0)) (omega (arith, b.0)), b.0);
          inner = inner;
        }

    pub store-fit : 3 * n + 1 + region_count s ≤ length w → StoreFit s n w t
    store-fit room = record {
      header = whole.header;
      few = few-tables (tri 0 t);
      most = omega (arith, c.most, c.groups.few);
      room = room;
      table = table-fit (omega arith);
    }
      where
        outer-low : (g : ℕ) → g < t → g ≤ outer_of g
        outer-low g l = let b = start-in g l in (c.groups.low g (start_of n w g) l (omega arith) b.0).0

        few-tables : Tri 0 t → t < 65536
        few-tables (below h) = omega (arith, outer-low (t - 1) (omega arith), (group-row (t - 1) (omega arith)).outer-in, be-two s bytes 6)
        few-tables (same h) = omega arith
        few-tables (above h) = omega arith
