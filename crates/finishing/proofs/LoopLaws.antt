-- Laws of rows that are named, words that are copied, origins that are told, and the tests of what is lent. Assumes nothing.
use mathlib.Core.Path.{◌≡◌, refl, sym, ap, ◌∙◌}
use mathlib.Core.List.{List, [], ◌∷◌, ◌++◌}
use mathlib.Core.Logic.{⊎_elim}
use Prim.Native.Nat.{ℕ, suc, ◌+◌, ◌-◌, ◌*◌, ◌≤◌, ◌<◌}
use native.Mathlib.Nat.{add-zero}
use native.Mathlib.Omega.{arith}
use lib.ListN.{length, get_or, set, length-set}
use lib.Seq.{get_or-set_same, get_or-set_other}
use borrow.Author.Tests.{le-leb, lt-leb}
use Rattle.laws.specs.Bytes.{over}
use Rattle.laws.specs.LentRange.{seg}
use Rattle.laws.specs.Bounded.{tabulate}
use Rattle.laws.proofs.BytesLaws.{over-length}
use Rattle.laws.proofs.Cases.{lt-or-ge}
use Rattle.laws.proofs.BoundedLaws.{length-tabulate, tabulate-snoc}
use Rattle.laws.proofs.RangeLaws.{length-seg, seg-none, seg-snoc}
use Rattle.rows.proofs.OverLaws.{over_none, over-join, set-over}
use Rattle.said.specs.Refusals.{most_bytes, ids_short, map_short, log_short, origins_short, store_too_big, out_short, first_failed}
use Rattle.encoder.specs.declared.places.Places.{Places}
use Rattle.encoder.specs.Lent.{origins_in}
use Rattle.finishing.specs.Late.{origin_words}
use Rattle.finishing.specs.Lent.{RowsNamed, RoomFor, origins_told, short_no}

-- ---- naming rows: those before q are named

pub record Naming (rows n ids q : ℕ) (old w : List ℕ) : Type 0 where
  pub long : length w ≡ length old
  pub ahead : (k : ℕ) → rows + q ≤ k → get_or w k 0 ≡ get_or old k 0
  pub behind : (k : ℕ) → k < rows → get_or w k 0 ≡ get_or old k 0
  pub at : (i : ℕ) → i < q → get_or old (rows + i) 0 < n → get_or w (rows + i) 0 ≡ get_or old (ids + get_or old (rows + i) 0) 0

pub naming-start : (rows n ids : ℕ) (w : List ℕ) → Naming rows n ids 0 w w
naming-start rows n ids w = record {
  long = refl;
  ahead = λ k l. refl;
  behind = λ k l. refl;
  at = λ i l b. absurd (omega arith);
}

module _ {rows n ids q : ℕ} {old w : List ℕ} (s : Naming rows n ids q old w) (less : q < n) where
  pub naming-some : ids + n ≤ rows → rows + n ≤ length old → get_or w (rows + q) 0 < n → Naming rows n ids (q + 1) old (set w (rows + q) (get_or w (ids + get_or w (rows + q) 0) 0))
  naming-some before room small =
      let v = get_or w (ids + get_or w (rows + q) 0) 0 in
      let here : get_or w (rows + q) 0 ≡ get_or old (rows + q) 0 = s.ahead (rows + q) (omega arith) in
      let id : v ≡ get_or old (ids + get_or old (rows + q) 0) 0 = s.behind (ids + get_or w (rows + q) 0) (omega arith) ∙ ap (λ (x : ℕ). get_or old (ids + x) 0) here in
      record {
        long = length-set w (rows + q) v ∙ s.long;
        ahead = λ k l. get_or-set_other w (rows + q) k v 0 (omega arith) ∙ s.ahead k (omega arith);
        behind = λ k l. get_or-set_other w (rows + q) k v 0 (omega arith) ∙ s.behind k l;
        at = λ i l b. ⊎_elim
            (λ (p : i < q). get_or-set_other w (rows + q) (rows + i) v 0 (omega arith) ∙ s.at i p b)
            (λ (p : q ≤ i). let e : q ≡ i = omega arith in rw (← e) (get_or-set_same w (rows + q) v 0 (omega (arith, s.long)) ∙ id))
            (lt-or-ge i q);
      }

  pub naming-none : (get_or w (rows + q) 0 < n → ⊥) → Naming rows n ids (q + 1) old w
  naming-none large =
      let here : get_or w (rows + q) 0 ≡ get_or old (rows + q) 0 = s.ahead (rows + q) (omega arith) in
      record {
        long = s.long;
        ahead = λ k l. s.ahead k (omega arith);
        behind = s.behind;
        at = λ i l b. ⊎_elim
            (λ (p : i < q). s.at i p b)
            (λ (p : q ≤ i). let e : q ≡ i = omega arith in absurd (large (rw (here, e) b)))
            (lt-or-ge i q);
      }

pub naming-done : {rows n ids q : ℕ} {old w : List ℕ} → Naming rows n ids q old w → q ≤ n → n ≤ q → RowsNamed rows n ids old w
naming-done {rows} {n} {ids} {q} {old} {w} s few all = record {
  only = record {
    long = s.long;
    kept = λ k o. ⊎_elim
        (λ (p : k < rows). s.behind k p)
        (λ (p : rows ≤ k). s.ahead k (omega (arith, o.0.apart (omega arith))))
        (lt-or-ge k rows);
  };
  at = λ i l b. s.at i (omega arith) b;
}

-- ---- copying

pub copy_start : (to w : List ℕ) (from : ℕ) → to ≡ over to 0 0 (seg from 0 w)
copy_start to w from = sym (ap (λ (l : List ℕ). over to 0 0 l) (seg-none from w) ∙ over_none to 0)

pub copy-long : (to u w : List ℕ) (from i : ℕ) → u ≡ over to 0 i (seg from i w) → from + i ≤ length w → i ≤ length to → length u ≡ length to
copy-long to u w from i e l r = ap length e ∙ over-length to 0 i (seg from i w) (length-seg from i w l) (omega arith)

pub copy_more : (to u w : List ℕ) (from n i : ℕ) → u ≡ over to 0 i (seg from i w) → i < n → from + n ≤ length w → n ≤ length to
    → set u i (get_or w (from + i) 0) ≡ over to 0 (i + 1) (seg from (i + 1) w)
copy_more to u w from n i e less l r =
    let v = get_or w (from + i) 0 in
    let long : length u ≡ length to = copy-long to u w from i e (omega arith) (omega arith) in
    let z : 0 + i ≡ i = omega arith in
    let j : over (over to 0 i (seg from i w)) (0 + i) 1 (v ∷ []) ≡ over to 0 (i + 1) (seg from i w ++ (v ∷ [])) =
    over-join to 0 (seg from i w) (v ∷ []) i 1 (length-seg from i w (omega arith)) refl (omega arith) in
    set-over u i v (omega arith)
    ∙ ap (λ (o : List ℕ). over o i 1 (v ∷ [])) e
    ∙ ap (λ (a : ℕ). over (over to 0 i (seg from i w)) a 1 (v ∷ [])) (sym z)
    ∙ j
    ∙ ap (λ (s : List ℕ). over to 0 (i + 1) s) (sym (seg-snoc from i w (omega arith)))

pub copy_done : (to u w : List ℕ) (from n i : ℕ) → u ≡ over to 0 i (seg from i w) → i ≤ n → n ≤ i → u ≡ over to 0 n (seg from n w)
copy_done to u w from n i e a b = let s : i ≡ n = omega arith in rw s at e

-- ---- origins

pub told-long : (i : ℕ) (l : List ℕ) → length (origin_words i l) ≡ 2 * length l
unfolding origin_words
told-long i [] = refl
told-long i (q ∷ l) = omega (arith, told-long (suc i) l)

told-snoc : (i : ℕ) (l : List ℕ) (q : ℕ) → origin_words i (l ++ (q ∷ [])) ≡ origin_words i l ++ ((i + length l) ∷ q ∷ [])
unfolding origin_words
told-snoc i [] q = ap (λ (n : ℕ). n ∷ q ∷ []) (sym (add-zero i))
told-snoc i (x ∷ l) q =
    let e : suc i + length l ≡ i + suc (length l) = omega arith in
    ap (λ (m : List ℕ). i ∷ x ∷ m) (told-snoc (suc i) l q ∙ ap (λ (n : ℕ). origin_words (suc i) l ++ (n ∷ q ∷ [])) e)

module _ (to : List ℕ) (p : Places) (w : List ℕ) where
  -- the place of the final group of starting group i
  abbrev home : ℕ → ℕ
  home i = get_or w (p.homes + get_or w (p.order + i) 0) 0

  -- so many are told
  abbrev told : ℕ → List ℕ
  told i = over to 0 (2 * i) (origins_told p i w)

  pub told-start : to ≡ told 0
  unfolding origin_words origins_in tabulate
  told-start = sym (over_none to 0)

  words_long : (i : ℕ) → length (origins_told p i w) ≡ 2 * i
  unfolding origins_in
  words_long i = told-long 0 (tabulate 0 i home) ∙ ap (λ (n : ℕ). 2 * n) (length-tabulate 0 i home)

  pub told-size : (i : ℕ) (u : List ℕ) → u ≡ told i → 2 * i ≤ length to → length u ≡ length to
  told-size i u e h = ap length e ∙ over-length to 0 (2 * i) (origins_told p i w) (words_long i) (omega arith)

  one_more : (i : ℕ) → origins_told p (i + 1) w ≡ origins_told p i w ++ (i ∷ home i ∷ [])
  unfolding origins_in
  one_more i =
      let z : 0 + i ≡ i = omega arith in
      let n : 0 + length (tabulate 0 i home) ≡ i = omega (arith, length-tabulate 0 i home) in
      ap (origin_words 0) (tabulate-snoc 0 i home)
      ∙ told-snoc 0 (tabulate 0 i home) (home (0 + i))
      ∙ ap (λ (k : ℕ). origin_words 0 (tabulate 0 i home) ++ (k ∷ home (0 + i) ∷ [])) n
      ∙ ap (λ (k : ℕ). origin_words 0 (tabulate 0 i home) ++ (i ∷ home k ∷ [])) z

  pub told_more : (i n : ℕ) (u : List ℕ) → u ≡ told i → i < n → 2 * n ≤ length to → set (set u (2 * i) i) (2 * i + 1) (home i) ≡ told (i + 1)
  told_more i n u e less room =
      let long : length u ≡ length to = told-size i u e (omega arith) in
      let z : 0 + 2 * i ≡ 2 * i = omega arith in
      let s : 2 * i + 2 ≡ 2 * (i + 1) = omega arith in
      let both : over (over u (2 * i) 1 (i ∷ [])) (2 * i + 1) 1 (home i ∷ []) ≡ over u (2 * i) 2 (i ∷ home i ∷ []) =
      over-join u (2 * i) (i ∷ []) (home i ∷ []) 1 1 refl refl (omega arith) in
      let join : over (told i) (0 + 2 * i) 2 (i ∷ home i ∷ []) ≡ over to 0 (2 * i + 2) (origins_told p i w ++ (i ∷ home i ∷ [])) =
      over-join to 0 (origins_told p i w) (i ∷ home i ∷ []) (2 * i) 2 (words_long i) refl (omega arith) in
      set-over (set u (2 * i) i) (2 * i + 1) (home i) (omega (arith, length-set u (2 * i) i))
      ∙ ap (λ (o : List ℕ). over o (2 * i + 1) 1 (home i ∷ [])) (set-over u (2 * i) i (omega arith))
      ∙ both
      ∙ ap (λ (o : List ℕ). over o (2 * i) 2 (i ∷ home i ∷ [])) e
      ∙ ap (λ (a : ℕ). over (told i) a 2 (i ∷ home i ∷ [])) (sym z)
      ∙ join
      ∙ ap (λ (a : ℕ). over to 0 a (origins_told p i w ++ (i ∷ home i ∷ []))) s
      ∙ ap (λ (l : List ℕ). over to 0 (2 * (i + 1)) l) (sym (one_more i))

  pub told-done : (i n : ℕ) (u : List ℕ) → u ≡ told i → i ≤ n → n ≤ i → u ≡ told n
  told-done i n u e a b = let s : i ≡ n = omega arith in rw s at e

-- ---- the tests of what is lent

module _ (sets distinct groups bytes out ids map log origins : ℕ) where
  abbrev pub shorts : ℕ
  shorts = short_no sets distinct groups bytes out ids map log origins

  pub ids-short : ids < sets → ids_short ≡ shorts
  unfolding short_no first_failed
  ids-short a = simp (lt-leb sets ids a)

  pub map-short : (ids < sets → ⊥) → map < distinct → map_short ≡ shorts
  unfolding short_no first_failed
  map-short a b = let h : sets ≤ ids = omega arith in simp (le-leb sets ids h, lt-leb distinct map b)

  module _ (a : ids < sets → ⊥) (b : map < distinct → ⊥) where
    pub log-short : log < 3 * (groups - 1) → log_short ≡ shorts
    unfolding short_no first_failed
    log-short c =
        let h : sets ≤ ids = omega arith in
        let i : distinct ≤ map = omega arith in
        simp (le-leb sets ids h, le-leb distinct map i, lt-leb (3 * (groups - 1)) log c)

    pub origins-short : 3 * (groups - 1) ≤ log → origins < 2 * groups → origins_short ≡ shorts
    unfolding short_no first_failed
    origins-short c o =
        let h : sets ≤ ids = omega arith in
        let i : distinct ≤ map = omega arith in
        simp (le-leb sets ids h, le-leb distinct map i, le-leb (3 * (groups - 1)) log c, lt-leb (2 * groups) origins o)

    module _ (c : 3 * (groups - 1) ≤ log) (o : 2 * groups ≤ origins) where
      pub too-big : most_bytes < bytes → store_too_big ≡ shorts
      unfolding short_no first_failed
      too-big d =
          let h : sets ≤ ids = omega arith in
          let i : distinct ≤ map = omega arith in
          simp (le-leb sets ids h, le-leb distinct map i, le-leb (3 * (groups - 1)) log c, le-leb (2 * groups) origins o, lt-leb bytes most_bytes d)

      pub out-short : (most_bytes < bytes → ⊥) → out < bytes → out_short ≡ shorts
      unfolding short_no first_failed
      out-short s d =
          let h : sets ≤ ids = omega arith in
          let i : distinct ≤ map = omega arith in
          let f : bytes ≤ most_bytes = omega arith in
          simp (le-leb sets ids h, le-leb distinct map i, le-leb (3 * (groups - 1)) log c, le-leb (2 * groups) origins o, le-leb bytes most_bytes f, lt-leb bytes out d)

      pub none-short : (most_bytes < bytes → ⊥) → (out < bytes → ⊥) → 0 ≡ shorts
      unfolding short_no first_failed
      none-short s d =
          let h : sets ≤ ids = omega arith in
          let i : distinct ≤ map = omega arith in
          let f : bytes ≤ most_bytes = omega arith in
          let j : bytes ≤ out = omega arith in
          simp (le-leb sets ids h, le-leb distinct map i, le-leb (3 * (groups - 1)) log c, le-leb (2 * groups) origins o, le-leb bytes most_bytes f, le-leb bytes out j)

  -- where none applies, there is room
  pub room_for : shorts ≡ 0 → RoomFor sets distinct groups bytes out ids map log origins
  room_for e = record {
    ids-room = one;
    map-room = two;
    log-room = three;
    origins-room = more;
    bytes-few = few;
    out-room = four;
  }
    where
      one : sets ≤ ids
      one = ⊎_elim (λ (h : ids < sets). absurd (omega (arith, ids-short h))) (λ h. h) (lt-or-ge ids sets)

      two : distinct ≤ map
      two = ⊎_elim (λ (h : map < distinct). absurd (omega (arith, map-short (λ x. omega (arith, one)) h))) (λ h. h) (lt-or-ge map distinct)

      three : 3 * (groups - 1) ≤ log
      three = ⊎_elim (λ (h : log < 3 * (groups - 1)). absurd (omega (arith, log-short (λ x. omega (arith, one)) (λ x. omega (arith, two)) h))) (λ h. h) (lt-or-ge log (3 * (groups - 1)))

      more : 2 * groups ≤ origins
      more = ⊎_elim (λ (h : origins < 2 * groups). absurd (omega (arith, origins-short (λ x. omega (arith, one)) (λ x. omega (arith, two)) three h))) (λ h. h) (lt-or-ge origins (2 * groups))

      few : bytes ≤ most_bytes
      few = ⊎_elim (λ (h : most_bytes < bytes). absurd (omega (arith, too-big (λ x. omega (arith, one)) (λ x. omega (arith, two)) three more h))) (λ h. h) (lt-or-ge most_bytes bytes)

      four : bytes ≤ out
      four = ⊎_elim (λ (h : out < bytes). absurd (omega (arith, out-short (λ x. omega (arith, one)) (λ x. omega (arith, two)) three more (λ x. omega (arith, few)) h))) (λ h. h) (lt-or-ge out bytes)
