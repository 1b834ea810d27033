-- The width table of a done build gives every glyph's set back (specs/WidthsRead.antt). Assumes nothing.
use mathlib.Core.Path.{◌≡◌, sym, ap, ap₂, ◌∙◌}
use mathlib.Core.Bool.{true}
use mathlib.Core.List.{List, [], ◌++◌}
use mathlib.Core.Logic.{inl, inr, ⊎_elim}
use mathlib.Core.Option.{some}
use Prim.Native.Nat.{ℕ, ◌+◌, ◌*◌, ◌/◌, ◌%◌, ◌<◌}
use native.Mathlib.Nat.{mul_comm}
use native.Mathlib.Omega.{arith}
use lib.ListN.{length, get_or, take, drop}
use borrow.Author.Tests.{lt-ltb, ne_eqb}
use Rattle.std.specs.Prelude.{Ok}
use Rattle.laws.specs.Every.{All}
use Rattle.laws.specs.LentRange.{seg}
use Rattle.laws.proofs.BoundedLaws.{length-tabulate, get_or-tabulate}
use Rattle.laws.proofs.EveryLaws.{all-intro}
use Rattle.reader.specs.Store.{Written, list_at, read_store, value_of, region_count}
use Rattle.stores.specs.Stores.{Parsed, parse, is_whole_ok}
use Rattle.stores.proofs.WholeLaws.{parse-is, whole-ok}
use Rattle.stores.proofs.Reading.{list-parsed}
use Rattle.stores.proofs.Tail.{parse-tail}
use Rattle.said.proofs.SoundLaws.{Bytes}
use Rattle.widths.specs.Layout.{map_part}
use Rattle.widths.specs.Answers.{widths_of, widths_left}
use Rattle.widths.specs.Reading.{width_reading}
use Rattle.widths.specs.Back.{word_for, said}
use Rattle.widths.proofs.DoneLaws.{store-inside, done-back}
use Rattle.finishing.specs.declared.answers.Report.{Report}
use Rattle.finishing.specs.Answers as built
use Rattle.call.specs.Lending.{Lending}
use Rattle.call.specs.Build.{answer_of, after}
use Rattle.accepted.proofs.Accepted.{accepted}
use Rattle.accepted.proofs.WholeBack.{made_in, made-axes, store-parsed}
use Rattle.refusing.specs.Counts.{end_records}
use Rattle.demands.specs.SetsRead.{listed, InStore, SetRead}
use Rattle.advances.specs.WidthsRead.{store_in, GlyphRead, store_left, set_words, TableRead, WidthsRead}
use Rattle.demands.proofs.BytesBack.{bytes_back}
use Rattle.demands.proofs.PlainRows.{plain}

-- ---- the region list of a store with more behind it

listed-is : (axes : ℕ) (s : List ℕ) (p : Parsed) → parse s ≡ some p → p.axes ≡ axes → (q : ℕ) → q < length p.regions → listed axes s q ≡ get_or p.regions q []
unfolding seg
listed-is axes s p h e q l =
    let o : list_at s + 4 + 6 * axes * q ≡ list_at s + 4 + q * (6 * p.axes) = omega (arith, mul_comm (6 * axes) q, ap (λ (x : ℕ). q * (6 * x)) e) in
    ap₂ (λ (x i : ℕ). take (6 * x) (drop i s)) (sym e) o ∙ (list-parsed s p h).region q l

module _ (axes : ℕ) (s t : List ℕ) (p : Parsed) (h : parse s ≡ some p) (e : p.axes ≡ axes) where
  count-tail : region_count (s ++ t) ≡ region_count s
  count-tail = (list-parsed (s ++ t) p (parse-tail s t p h)).count ∙ sym (list-parsed s p h).count

  listed-tail : (q : ℕ) → q < region_count s → listed axes (s ++ t) q ≡ listed axes s q
  listed-tail q l =
      let k : q < length p.regions = omega (arith, (list-parsed s p h).count) in
      listed-is axes (s ++ t) p (parse-tail s t p h) e q k ∙ sym (listed-is axes s p h e q k)

-- ---- a set's row, read by way of a table

module _ (axes : ℕ) (job s table : List ℕ) (g at : ℕ) (b : SetRead axes job s g at)
    (count : region_count (store_in table) ≡ region_count s)
    (same : (q : ℕ) → q < region_count s → listed axes (store_in table) q ≡ listed axes s q)
    (reads : (q : ℕ) → width_reading table g q ≡ read_store s b.outer b.inner q) where
  value-is : (q : ℕ) → value_of (width_reading table g q) ≡ value_of (read_store s b.outer b.inner q)
  value-is q = ap value_of (reads q)

  there : (i : ℕ) → InStore axes job s i → InStore axes job (store_in table) i
  there i y = record { index = y.index; below = omega (arith, y.below, count); coordinates = same y.index y.below ∙ y.coordinates }

  glyph-read : GlyphRead axes job table g
  glyph-read = record {
    answers = λ q l. ⊎_elim
        (λ h. inl (reads q ∙ h ∙ ap Written (sym (value-is q))))
        (λ h. inr (reads q ∙ h))
        (b.answers q (omega (arith, count)));
    given = λ i v q l e. let k : q < region_count s = omega (arith, count) in value-is q ∙ b.given i v q k (sym (same q k) ∙ e);
    in_list = λ i v d. there i (b.in_list i v d);
    unnamed = λ q l d. let k : q < region_count s = omega (arith, count) in value-is q ∙ b.unnamed q k (λ i v e. d i v (same q k ∙ e));
  }

-- ---- which row is said to be a glyph's

says-word : (s ws : List ℕ) (g outer inner q : ℕ) → g < length ws → get_or ws g 0 ≡ outer * 65536 + inner → inner < 65536 → said s ws g q ≡ read_store s outer inner q
unfolding said word_for
says-word s ws g outer inner q h e l =
    let o : get_or ws g 0 / 65536 ≡ outer = omega (arith, e) in
    let i : get_or ws g 0 % 65536 ≡ inner = omega (arith, e) in
    rw (ne_eqb (length ws) 0 (omega arith), lt-ltb g (length ws) h) (ap₂ (λ (x y : ℕ). read_store s x y q) o i)

says-number : (s : List ℕ) (g outer inner q : ℕ) → g ≡ outer * 65536 + inner → g < 65536 → said s [] g q ≡ read_store s outer inner q
unfolding said
says-number s g outer inner q e l =
    let o : 0 ≡ outer = omega (arith, e) in
    let i : g ≡ inner = omega (arith, e) in
    ap₂ (λ (x y : ℕ). read_store s x y q) o i

-- ---- a done build

module _ (c : Lending) (r : Report) (bytes : Bytes c.job) (e : answer_of c ≡ built.Done r) where
  abbrev s : List ℕ
  s = store_left c r

  abbrev at : ℕ → ℕ
  at n = get_or (after c).lent.map (get_or (after c).lent.ids n 0) 0

  set-read : (n : ℕ) → n < end_records c.job → SetRead c.axes c.job s n (at n)
  set-read = (bytes_back c r bytes e).sets-read

  parsed : parse s ≡ some (made_in c r (accepted c r e))
  parsed = store-parsed c r (accepted c r e) bytes

  whole : is_whole_ok s ≡ true
  whole = whole-ok s (parse-is s (made_in c r (accepted c r e)) parsed).0

  module _ (ws out : List ℕ) (n : ℕ) (low : All (λ w. w < 4294967296) ws) (done : widths_of s ws (length out) ≡ Ok n) (g : ℕ) (h : g < end_records c.job)
      (says : (q : ℕ) → said s ws g q ≡ read_store s (set-read g h).outer (set-read g h).inner q) where
    inside : store_in (take n (widths_left s ws out)) ≡ s ++ map_part ws
    inside = store-inside s ws out n done

    from : GlyphRead c.axes c.job (take n (widths_left s ws out)) g
    from =
        let p = made_in c r (accepted c r e) in
        let x = made-axes c r (accepted c r e) in
        glyph-read c.axes c.job s (take n (widths_left s ws out)) g (at g) (set-read g h)
        (ap region_count inside ∙ count-tail c.axes s (map_part ws) p parsed x)
        (λ q l. ap (λ (t : List ℕ). listed c.axes t q) inside ∙ listed-tail c.axes s (map_part ws) p parsed x q l)
        (λ q. done-back s ws out whole low n done g q ∙ says q)

  words_long : length (set_words c) ≡ end_records c.job
  words_long = length-tabulate 0 (end_records c.job) at

  word_at : (n : ℕ) → n < end_records c.job → get_or (set_words c) n 0 ≡ at n
  word_at n h = get_or-tabulate 0 (end_records c.job) at 0 n h ∙ ap at (omega arith)

  words-low : All (λ w. w < 4294967296) (set_words c)
  words-low = all-intro (λ w. w < 4294967296) (set_words c) 0 (λ n h.
      (let k : n < end_records c.job = omega (arith, words_long) in
      let b = set-read n k in
      omega (arith, word_at n k, b.word-is, b.outer_below, b.inner_below)))

  by_map : TableRead c r (set_words c)
  by_map out n done g h =
      let b = set-read g h in
      from (set_words c) out n words-low done g h
      (λ q. says-word s (set_words c) g b.outer b.inner q (omega (arith, words_long)) (word_at g h ∙ b.word-is) b.inner_below)

  by_number : c.mode ≡ 1 → TableRead c r []
  by_number m out n done g h =
      let b = set-read g h in
      let p = plain c r m e in
      let i : at g ≡ g = ap (λ (x : ℕ). get_or (after c).lent.map x 0) (p.id-is g h) ∙ p.word-is g h in
      from [] out n tt done g h (λ q. says-number s g b.outer b.inner q (sym i ∙ b.word-is) (omega (arith, p.sets-few)))

-- THE LAW
pub widths-back : (c : Lending) (r : Report) → Bytes c.job → answer_of c ≡ built.Done r → WidthsRead c r
widths-back c r bytes e = record { well-formed = whole c r bytes e; by_map = by_map c r bytes e; by_number = by_number c r bytes e }
