-- Rising words grouped by subtable. Assumes nothing.
use mathlib.Core.Path.{◌≡◌, refl, sym, ap, ◌∙◌}
use mathlib.Core.Bool.{true, false, not}
use mathlib.Core.List.{List, [], ◌∷◌}
use mathlib.Core.Logic.{⊎_elim}
use Prim.Native.Nat.{ℕ, zero, suc, ◌+◌, ◌-◌, ◌*◌, ◌/◌, ◌%◌, ◌≤◌, ◌<◌}
use native.Mathlib.Omega.{arith}
use lib.Dec.{eqb}
use lib.ListN.{length, get_or, set, length-set}
use lib.Seq.{get_or-set_same, get_or-set_other}
use borrow.Author.Tests.{eqb-true, eqb-false, not-true, not-false}
use Rattle.laws.specs.LentRange.{Only}
use Rattle.laws.proofs.Cases.{or_cases, lt-or-ge}
use Rattle.laws.proofs.RangeLaws.{only-trans, only_set}
use Rattle.choosing.specs.Lent.{Rising, Low, outer, opens, Groups, GroupsIn}
use Rattle.choosing.proofs.OnceLaws.{or_no}

pub opens-is : (w : List ℕ) (j : ℕ) → opens w j ≡ true → 0 < j → outer (get_or w (j - 1) 0) ≡ outer (get_or w j 0) → ⊥
unfolding opens
opens-is w j h p e = ⊎_elim
    (λ (z : eqb j 0 ≡ true). omega (arith, eqb-true j 0 z))
    (λ z. eqb-false (outer (get_or w (j - 1) 0)) (outer (get_or w j 0)) (not-true (eqb (outer (get_or w (j - 1) 0)) (outer (get_or w j 0))) z) e)
    (or_cases (eqb j 0) (not (eqb (outer (get_or w (j - 1) 0)) (outer (get_or w j 0)))) h)

pub opens_not : (w : List ℕ) (j : ℕ) → opens w j ≡ false → (0 < j) × (outer (get_or w (j - 1) 0) ≡ outer (get_or w j 0))
unfolding opens
opens_not w j h =
    let a = or_no (eqb j 0) (not (eqb (outer (get_or w (j - 1) 0)) (outer (get_or w j 0)))) h in
    let d = eqb-false j 0 a.0 in
    (omega arith, eqb-true (outer (get_or w (j - 1) 0)) (outer (get_or w j 0)) (not-false (eqb (outer (get_or w (j - 1) 0)) (outer (get_or w j 0))) a.1))

-- rising words are at least their places
pub rising-low : {k : ℕ} {w : List ℕ} → Rising k w → (j : ℕ) → j < k → j ≤ get_or w j 0
rising-low r zero h = omega arith
rising-low r (suc j) h = omega (arith, rising-low r j (omega arith), r.up j (suc j) (omega arith) h)

-- S rises
starts-up : {W P S : ℕ → ℕ} {k t : ℕ} → Groups W P S k t → (g d : ℕ) → g + d ≤ t → S g + d ≤ S (g + d)
starts-up {W} {P} {S} gs g zero h = let z : g + 0 ≡ g = omega arith in rw z (omega arith)
starts-up {W} {P} {S} gs g (suc d) h =
    let z : g + suc d ≡ g + d + 1 = omega arith in
    rw z (omega (arith, starts-up gs g d (omega arith), gs.up (g + d) (omega arith)))

pub starts-most : {W P S : ℕ → ℕ} {k t : ℕ} → Groups W P S k t → (g h : ℕ) → g ≤ h → h ≤ t → S g ≤ S h
starts-most {W} {P} {S} gs g h p q = let e : g + (h - g) ≡ h = omega arith in omega (arith, rw e at (starts-up gs g (h - g) (omega arith)))

module _ {W P S : ℕ → ℕ} {j t : ℕ} (gs : Groups W P S j t) (W' P' S' : ℕ → ℕ)
    (w-same : (i : ℕ) → i ≤ j → W' i ≡ W i) (rise : 0 < j → W (j - 1) < W j) (p-same : (i : ℕ) → i < j → P' i ≡ P i) where
  -- the last of the words before stands in the last group
  last-in : 0 < j → (0 < t) × (S (t - 1) ≤ j - 1) × (j - 1 < S (t - 1 + 1)) × (S (t - 1 + 1) ≡ j)
  last-in h =
      let a = gs.at (j - 1) (omega arith) in
      let p : 0 < t = omega (arith, a.1) in
      let e : t - 1 + 1 ≡ t = omega arith in
      let f : S (t - 1 + 1) ≡ j = ap S e ∙ gs.last in
      (p, omega (arith, gs.up (t - 1) (omega arith)), omega arith, f)

  -- a word of a new subtable
  module _ (new : 0 < j → outer (W (j - 1)) ≡ outer (W j) → ⊥) where
    apart : 0 < j → outer (W (j - 1)) < outer (W j)
    apart h = let d = new h in let r = rise h in omega arith

    t-low : t ≤ W j / 65536
    t-low = ⊎_elim
        (λ (h : 0 < j).
        let l = last-in h in
        let a = gs.low (t - 1) (j - 1) (omega (arith, l.0)) l.1 l.2 in
        omega (arith, apart h, a.0, l.0))
        (λ (h : j ≤ 0). omega (arith, gs.few))
        (lt-or-ge 0 j)

  module _ (s-same : (g : ℕ) → g ≤ t → S' g ≡ S g) (p-new : P' j ≡ t * 65536) (s-new : S' (t + 1) ≡ j + 1)
      (new : 0 < j → outer (W (j - 1)) ≡ outer (W j) → ⊥) where
    start-new : S' t ≡ j
    start-new = s-same t (omega arith) ∙ gs.last

    -- a group that was there
    module _ (g : ℕ) (l : g < t) where
      s₀ : S' g ≡ S g
      s₀ = s-same g (omega arith)

      s₁ : S' (g + 1) ≡ S (g + 1)
      s₁ = s-same (g + 1) (omega arith)

      top : S (g + 1) ≤ j
      top = omega (arith, starts-most gs (g + 1) t (omega arith) (omega arith), gs.last)

    pub group-new : Groups W' P' S' (j + 1) (t + 1)
    group-new = record {
      few = omega (arith, gs.few);
      first = s-same 0 (omega arith) ∙ gs.first;
      last = s-new;
      up = λ g l. ⊎_elim
          (λ (b : g < t). omega (arith, s₀ g b, s₁ g b, gs.up g b))
          (λ (b : t ≤ g). let z : g ≡ t = omega arith in rw z (omega (arith, start-new, s-new)))
          (lt-or-ge g t);
      same = λ g i l p q. ⊎_elim
          (λ (b : g < t).
          let i-in : i < j = omega (arith, s₁ g b, top g b) in
          let c = gs.same g i b (omega (arith, s₀ g b)) (omega (arith, s₁ g b)) in
          let u = gs.up g b in
          w-eq i (omega arith) ∙ c ∙ sym (ap outer (ap W' (s₀ g b) ∙ w-same (S g) (omega (arith, top g b)))))
          (λ (b : t ≤ g).
          let z : g ≡ t = omega arith in
          let y : S' g ≡ j = ap S' z ∙ start-new in
          let x : S' (g + 1) ≡ j + 1 = ap (λ (h : ℕ). S' (h + 1)) z ∙ s-new in
          let v : i ≡ S' g = omega arith in
          ap (λ (h : ℕ). outer (W' h)) v)
          (lt-or-ge g t);
      more = λ g l. ⊎_elim
          (λ (b : g + 1 < t).
          let u = gs.up (g + 1) b in
          let e = ap W' (s₀ g (omega arith)) ∙ w-same (S g) (omega (arith, top g (omega arith), gs.up g (omega arith))) in
          let f = ap W' (s₀ (g + 1) b) ∙ w-same (S (g + 1)) (omega (arith, top g (omega arith))) in
          omega (arith, gs.more g b, ap outer e, ap outer f))
          (λ (b : t ≤ g + 1).
          let z : g + 1 ≡ t = omega arith in
          let y : S' (g + 1) ≡ j = ap S' z ∙ start-new in
          let h : 0 < j = omega (arith, gs.few) in
          let i = last-in h in
          let gt : t - 1 ≡ g = omega arith in
          let c = gs.same g (j - 1) (omega arith) (rw gt at i.1) (rw gt at i.2) in
          let e = ap W' (s₀ g (omega arith)) ∙ w-same (S g) (omega (arith, rw gt at i.1)) in
          let f = ap W' y ∙ w-same j (omega arith) in
          omega (arith, apart new h, ap outer e, ap outer f, c))
          (lt-or-ge (g + 1) t);
      place = λ g i l p q. ⊎_elim
          (λ (b : g < t).
          let i-in : i < j = omega (arith, s₁ g b, top g b) in
          omega (arith, p-same i i-in, gs.place g i b (omega (arith, s₀ g b)) (omega (arith, s₁ g b)), s₀ g b))
          (λ (b : t ≤ g).
          let z : g ≡ t = omega arith in
          let y : S' g ≡ j = ap S' z ∙ start-new in
          let x : S' (g + 1) ≡ j + 1 = ap (λ (h : ℕ). S' (h + 1)) z ∙ s-new in
          let v : i ≡ j = omega arith in
          let u : P' i ≡ t * 65536 = ap P' v ∙ p-new in
          omega arith)
          (lt-or-ge g t);
      low = λ g i l p q. ⊎_elim
          (λ (b : g < t).
          let i-in : i < j = omega (arith, s₁ g b, top g b) in
          let a = gs.low g i b (omega (arith, s₀ g b)) (omega (arith, s₁ g b)) in
          let e = w-same i (omega arith) in
          (rw e a.0, rw e (omega (arith, a.1, s₀ g b))))
          (λ (b : t ≤ g).
          let z : g ≡ t = omega arith in
          let y : S' g ≡ j = ap S' z ∙ start-new in
          let x : S' (g + 1) ≡ j + 1 = ap (λ (h : ℕ). S' (h + 1)) z ∙ s-new in
          let v : i ≡ j = omega arith in
          let e : W' i ≡ W j = ap W' v ∙ w-same j (omega arith) in
          (rw e (omega (arith, t-low new)), omega arith))
          (lt-or-ge g t);
      at = λ i l. ⊎_elim
          (λ (b : i < j).
          let a = gs.at i b in
          (a.0, omega (arith, a.1), omega (arith, a.2, s₀ a.0 a.1), omega (arith, a.3, s₁ a.0 a.1)))
          (λ (b : j ≤ i). (t, omega arith, omega (arith, start-new), omega (arith, s-new)))
          (lt-or-ge i j);
    }
      where
        w-eq : (i : ℕ) → i ≤ j → outer (W' i) ≡ outer (W i)
        w-eq i h = ap outer (w-same i h)

  -- one more of the same
  module _ (s-same : (g : ℕ) → g < t → S' g ≡ S g) (p-new : P' j ≡ P (j - 1) + 1) (s-new : S' t ≡ j + 1)
      (some : 0 < j) (old : outer (W (j - 1)) ≡ outer (W j)) where
    in-last : (t - 1 < t) × (S (t - 1) ≤ j - 1) × (j - 1 < S (t - 1 + 1)) × (S (t - 1 + 1) ≡ j)
    in-last = let a = last-in some in (omega (arith, a.0), a.1, a.2, a.3)

    -- a group before the last is as it was
    module _ (g : ℕ) (l : g + 1 < t) where
      a₀ : S' g ≡ S g
      a₀ = s-same g (omega arith)

      a₁ : S' (g + 1) ≡ S (g + 1)
      a₁ = s-same (g + 1) l

      ends : S (g + 1) < j
      ends = omega (arith, starts-most gs (g + 1) (t - 1) (omega arith) (omega arith), in-last.1)

    -- the last one
    module _ (g : ℕ) (l : g < t) (b : t ≤ g + 1) where
      z : t - 1 ≡ g
      z = omega arith

      b₀ : S' g ≡ S g
      b₀ = s-same g l

      b₁ : S' (g + 1) ≡ j + 1
      b₁ = let y : g + 1 ≡ t = omega arith in ap S' y ∙ s-new

      b₂ : (S g ≤ j - 1) × (j - 1 < S (g + 1)) × (S (g + 1) ≡ j)
      b₂ = let a = in-last in let c : (S (t - 1) ≤ j - 1) × (j - 1 < S (t - 1 + 1)) × (S (t - 1 + 1) ≡ j) = (a.1, a.2, a.3) in rw z at c

      b-outer : outer (W j) ≡ outer (W (S g))
      b-outer = sym old ∙ gs.same g (j - 1) l b₂.0 b₂.1

      b-place : P (j - 1) ≡ g * 65536 + (j - 1 - S g)
      b-place = gs.place g (j - 1) l b₂.0 b₂.1

      b-low : (g ≤ W (j - 1) / 65536) × (j - 1 - S g ≤ W (j - 1) % 65536)
      b-low = gs.low g (j - 1) l b₂.0 b₂.1

    pub group-more : Groups W' P' S' (j + 1) t
    group-more = record {
      few = omega (arith, gs.few);
      first = s-same 0 (omega (arith, in-last.0)) ∙ gs.first;
      last = s-new;
      up = λ g l. ⊎_elim
          (λ (b : g + 1 < t). omega (arith, a₀ g b, a₁ g b, gs.up g l))
          (λ (b : t ≤ g + 1). omega (arith, b₀ g l b, b₁ g l b, (b₂ g l b).0))
          (lt-or-ge (g + 1) t);
      same = λ g i l p q. ⊎_elim
          (λ (b : g + 1 < t).
          let c = gs.same g i l (omega (arith, a₀ g b)) (omega (arith, a₁ g b)) in
          let e = ap W' (a₀ g b) ∙ w-same (S g) (omega (arith, ends g b, gs.up g l)) in
          let f = w-same i (omega (arith, ends g b, a₁ g b)) in
          ap outer f ∙ c ∙ sym (ap outer e))
          (λ (b : t ≤ g + 1).
          let e = ap W' (b₀ g l b) ∙ w-same (S g) (omega (arith, (b₂ g l b).0)) in
          let f = w-same i (omega (arith, b₁ g l b)) in
          ap outer f ∙ (inside g l b i (omega (arith, b₀ g l b)) (omega (arith, b₁ g l b))) ∙ sym (ap outer e))
          (lt-or-ge (g + 1) t);
      more = λ g l.
          let b : g + 1 < t = l in
          let e = ap W' (a₀ g b) ∙ w-same (S g) (omega (arith, ends g b, gs.up g (omega arith))) in
          let f = ap W' (a₁ g b) ∙ w-same (S (g + 1)) (omega (arith, ends g b)) in
          omega (arith, gs.more g b, ap outer e, ap outer f);
      place = λ g i l p q. ⊎_elim
          (λ (b : g + 1 < t).
          omega (arith, p-same i (omega (arith, ends g b, a₁ g b)), gs.place g i l (omega (arith, a₀ g b)) (omega (arith, a₁ g b)), a₀ g b))
          (λ (b : t ≤ g + 1). ⊎_elim
          (λ (d : i < j). omega (arith, p-same i d, gs.place g i l (omega (arith, b₀ g l b)) (omega (arith, (b₂ g l b).2)), b₀ g l b))
          (λ (d : j ≤ i).
          let v : i ≡ j = omega (arith, b₁ g l b) in
          let x : P' i ≡ P (j - 1) + 1 = ap P' v ∙ p-new in
          omega (arith, b-place g l b, b₀ g l b, (b₂ g l b).0))
          (lt-or-ge i j))
          (lt-or-ge (g + 1) t);
      low = λ g i l p q. ⊎_elim
          (λ (b : g + 1 < t).
          let a = gs.low g i l (omega (arith, a₀ g b)) (omega (arith, a₁ g b)) in
          let e = w-same i (omega (arith, ends g b, a₁ g b)) in
          (rw e a.0, rw e (omega (arith, a.1, a₀ g b))))
          (λ (b : t ≤ g + 1). ⊎_elim
          (λ (d : i < j).
          let a = gs.low g i l (omega (arith, b₀ g l b)) (omega (arith, (b₂ g l b).2)) in
          let e = w-same i (omega arith) in
          (rw e a.0, rw e (omega (arith, a.1, b₀ g l b))))
          (λ (d : j ≤ i).
          let v : i ≡ j = omega (arith, b₁ g l b) in
          let e : W' i ≡ W j = ap W' v ∙ w-same j (omega arith) in
          let a = b-low g l b in
          let r = rise some in
          let o = old in
          (rw e (omega (arith, a.0)), rw e (omega (arith, a.1, b₀ g l b, (b₂ g l b).0))))
          (lt-or-ge i j))
          (lt-or-ge (g + 1) t);
      at = λ i l. ⊎_elim
          (λ (d : i < j).
          let a = gs.at i d in
          ⊎_elim
          (λ (b : a.0 + 1 < t). (a.0, a.1, omega (arith, a.2, a₀ a.0 b), omega (arith, a.3, a₁ a.0 b)))
          (λ (b : t ≤ a.0 + 1). (a.0, a.1, omega (arith, a.2, b₀ a.0 a.1 b), omega (arith, b₁ a.0 a.1 b)))
          (lt-or-ge (a.0 + 1) t))
          (λ (d : j ≤ i).
          let b : t ≤ t - 1 + 1 = omega arith in
          let m : t - 1 < t = in-last.0 in
          (t - 1, m, omega (arith, b₀ (t - 1) m b, (b₂ (t - 1) m b).0), omega (arith, b₁ (t - 1) m b)))
          (lt-or-ge i j);
    }
      where
        inside : (g : ℕ) (l : g < t) (b : t ≤ g + 1) (i : ℕ) → S g ≤ i → i < j + 1 → outer (W i) ≡ outer (W (S g))
        inside g l b i p q = ⊎_elim
            (λ (d : i < j). gs.same g i l p (omega (arith, (b₂ g l b).2)))
            (λ (d : j ≤ i). let v : i ≡ j = omega arith in ap (λ (h : ℕ). outer (W h)) v ∙ b-outer g l b)
            (lt-or-ge i j)

-- ---- in lent words

-- the first j words are grouped
pub record Grouping (n k : ℕ) (old new : List ℕ) (j t : ℕ) : Type 0 where
  pub within : j ≤ k
  pub only : Only ((n, 2 * n + 1) ∷ []) old new
  pub groups : GroupsIn n j new t

module _ (n k : ℕ) (old : List ℕ) (most : k ≤ n) (room : 3 * n + 1 ≤ length old) (r : Rising k old) (low : Low k old) where
  module _ (new : List ℕ) (j t : ℕ) (s : Grouping n k old new j t) (h : j < k) where
    word : (i : ℕ) → i < n → get_or new i 0 ≡ get_or old i 0
    word i l = s.only.kept i (record { apart = λ x. absurd (omega arith) }, tt)

    pub few-tables : t ≤ j
    few-tables = s.groups.few

    long : 3 * n + 1 ≤ length new
    long = omega (arith, s.only.long)

    rise : 0 < j → get_or new (j - 1) 0 < get_or new j 0
    rise l = omega (arith, r.up (j - 1) j (omega arith) h, word j (omega arith), word (j - 1) (omega arith))

    -- the place before is below the word before, so that one more is still a word
    place-low : 0 < j → get_or new (n + j - 1) 0 < get_or new j 0
    place-low l =
        let z : n + j - 1 ≡ n + (j - 1) = omega arith in
        let a = s.groups.at (j - 1) (omega arith) in
        let b = s.groups.place a.0 (j - 1) a.1 a.2 a.3 in
        let c = s.groups.low a.0 (j - 1) a.1 a.2 a.3 in
        let e = rise l in
        rw z (omega (arith, b, c.0, c.1))

    -- what is written is a word
    pub count_low : j + 1 < 4294967296
    count_low = omega (arith, rising-low r j h, low.top j h)

    pub tables-low : opens new j ≡ true → t * 65536 < 4294967296
    tables-low o =
        let same_w : (i : ℕ) → i ≤ j → get_or new i 0 ≡ get_or new i 0 = (λ i l. refl) in
        let l = t-low s.groups (λ i. get_or new i 0) (λ i. get_or new (n + i) 0) (λ g. get_or new (2 * n + g) 0) same_w rise (λ i l. refl) (λ l. opens-is new j o l) in
        omega (arith, l, low.top j h, word j (omega arith))

    pub place-fits : 0 < j → get_or new (n + j - 1) 0 + 1 < 4294967296
    place-fits l = omega (arith, place-low l, low.top j h, word j (omega arith))

    module _ (p g e : ℕ) (g-most : g ≤ n) where
      abbrev next : List ℕ
      next = set (set new (n + j) p) (2 * n + g) e

      next-only : Only ((n, 2 * n + 1) ∷ []) old next
      next-only = only-trans s.only (only-trans
          (only_set ((n, 2 * n + 1) ∷ []) new (n + j) p (λ x. omega (arith, x.0.apart (omega arith))))
          (only_set ((n, 2 * n + 1) ∷ []) (set new (n + j) p) (2 * n + g) e (λ x. omega (arith, x.0.apart (omega arith)))))

      other : (i : ℕ) → (i ≡ n + j → ⊥) → (i ≡ 2 * n + g → ⊥) → get_or next i 0 ≡ get_or new i 0
      other i c d = get_or-set_other (set new (n + j) p) (2 * n + g) i e 0 d ∙ get_or-set_other new (n + j) i p 0 c

      at_place : get_or next (n + j) 0 ≡ p
      at_place = get_or-set_other (set new (n + j) p) (2 * n + g) (n + j) e 0 (λ x. omega arith) ∙ get_or-set_same new (n + j) p 0 (omega (arith, long))

      at-start : get_or next (2 * n + g) 0 ≡ e
      at-start = get_or-set_same (set new (n + j) p) (2 * n + g) e 0 (omega (arith, long, length-set new (n + j) p))

    pub grouping-new : opens new j ≡ true → (p : ℕ) → p ≡ t * 65536 → Grouping n k old (set (set new (n + j) p) (2 * n + (t + 1)) (j + 1)) (j + 1) (t + 1)
    grouping-new o p e =
        let m : t + 1 ≤ n = omega (arith, few-tables) in
        record {
          within = omega arith;
          only = next-only p (t + 1) (j + 1) m;
          groups = group-new s.groups (λ i. get_or (next p (t + 1) (j + 1) m) i 0) (λ i. get_or (next p (t + 1) (j + 1) m) (n + i) 0) (λ g. get_or (next p (t + 1) (j + 1) m) (2 * n + g) 0)
              (λ i l. other p (t + 1) (j + 1) m i (λ x. omega arith) (λ x. omega arith)) rise
              (λ i l. other p (t + 1) (j + 1) m (n + i) (λ x. omega arith) (λ x. omega arith))
              (λ g l. other p (t + 1) (j + 1) m (2 * n + g) (λ x. omega arith) (λ x. omega arith))
              (at_place p (t + 1) (j + 1) m ∙ e) (at-start p (t + 1) (j + 1) m) (λ l. opens-is new j o l);
        }

    pub grouping-more : opens new j ≡ false → (p : ℕ) → p ≡ get_or new (n + j - 1) 0 + 1 → Grouping n k old (set (set new (n + j) p) (2 * n + t) (j + 1)) (j + 1) t
    grouping-more o p e =
        let m : t ≤ n = omega (arith, few-tables) in
        let d = opens_not new j o in
        let z : n + j - 1 ≡ n + (j - 1) = omega (arith, d.0) in
        record {
          within = omega arith;
          only = next-only p t (j + 1) m;
          groups = group-more s.groups (λ i. get_or (next p t (j + 1) m) i 0) (λ i. get_or (next p t (j + 1) m) (n + i) 0) (λ g. get_or (next p t (j + 1) m) (2 * n + g) 0)
              (λ i l. other p t (j + 1) m i (λ x. omega arith) (λ x. omega arith)) rise
              (λ i l. other p t (j + 1) m (n + i) (λ x. omega arith) (λ x. omega arith))
              (λ g l. other p t (j + 1) m (2 * n + g) (λ x. omega arith) (λ x. omega arith))
              (at_place p t (j + 1) m ∙ e ∙ ap (λ (i : ℕ). get_or new i 0 + 1) z) (at-start p t (j + 1) m) d.0 d.1;
        }
