-- D2 from the job's bytes to the store's (specs/SetsRead.antt): what the job says (`told`) meets what is read back
-- (Demand2). Assumes nothing.
use mathlib.Core.Path.{◌≡◌, refl, sym, ap, ◌∙◌}
use mathlib.Core.List.{List, []}
use mathlib.Core.Logic.{inl, inr, ⊎_elim}
use Prim.Native.Nat.{ℕ, ◌+◌, ◌%◌, ◌^◌, ◌<◌}
use native.Mathlib.Omega.{arith}
use lib.IntN.{pos}
use lib.ListN.{length, get_or, take}
use lib.Seq.{get_or-drop}
use Rattle.laws.specs.Bytes.{be}
use Rattle.laws.specs.Signed.{signed, word, value, zero_word}
use Rattle.laws.proofs.ListLaws.{get_or-map-in}
use Rattle.laws.proofs.SignedLaws.{value-twos, word_value}
use Rattle.sets.specs.Set.{word_of}
use Rattle.reader.specs.Store.{Written, read_store, value_of, region_count}
use Rattle.said.specs.Records.{region_number, value_as_word, record_at, record_start}
use Rattle.said.specs.Job.{Said}
use Rattle.said.proofs.RecordLaws.{be-two, be-four}
use Rattle.said.proofs.SoundLaws.{Bytes}
use Rattle.told.specs.Told.{ValueIn, coordinates_at, index_of, Told}
use Rattle.told.proofs.Bytes.{told}
use Rattle.finishing.specs.declared.answers.Report.{Report}
use Rattle.finishing.specs.Answers.{Done}
use Rattle.call.specs.Lending.{Lending}
use Rattle.call.specs.Build.{region_bytes, coords_in_use, answer_of, after}
use Rattle.demands.specs.SetsRead.{listed, named_by, value_at, InStore, SetRead, SetsRead}
use Rattle.accepted.proofs.Accepted.{coords-long}
use Rattle.demands.proofs.Demand2.{demand2}
use Rattle.demands.specs.Demand2.{SetBack}

-- ---- a record's value

zero_is : value zero_word ≡ pos 0
unfolding value
zero_is = refl

four_low : (r : List ℕ) → Bytes r → be 4 r 4 < 256 ^ 4
four_low r b = omega (arith, be-four r, be-two r 4, be-two r 6, b 4, b 5, b 6, b 7)

word-signed : (x : ℕ) → x < 256 ^ 4 → value (word (signed 4 x)) ≡ signed 4 x
word-signed x h =
    let t = value-twos x h in
    ap value (ap word (sym t) ∙ word_value ((x + zero_word) % 256 ^ 4)) ∙ t

pub value-at : (job : List ℕ) (i : ℕ) → Bytes job → value (value_as_word (record_at job i)) ≡ value_at job i
unfolding value_as_word
value-at job i b = word-signed (be 4 (record_at job i) 4) (four_low (record_at job i) (λ k. rw (get_or-drop (record_start i) job k 0) (b (record_start i + k))))

-- ---- one set

module _ (axes : ℕ) (job : List ℕ) (s : Said) (bytes : Bytes job) (t : Told axes job s) where
  pub coords-at : (r : ℕ) → r < length s.used → get_or (coords_in_use s) r [] ≡ region_bytes (coordinates_at axes job (get_or s.used r 0))
  unfolding coords_in_use
  coords-at r h =
      get_or-map-in (λ (q : ℕ). region_bytes (get_or s.regions q [])) s.used r 0 [] h
      ∙ ap region_bytes (t.regions-are (get_or s.used r 0) (t.used-known r h))

  module _ (store : List ℕ) (n at : ℕ) (h : n < length s.sets) (b : SetBack axes (coords_in_use s) (get_or s.sets n []) store at) where
    module _ (i : ℕ) (v : ValueIn job n i) where
      abbrev r : ℕ
      r = index_of s (region_number (record_at job i))

      below : r < length (coords_in_use s)
      below = omega (arith, (t.given n i v).index_below, coords-long s)

      named-at : get_or (coords_in_use s) r [] ≡ named_by axes job i
      named-at = coords-at r (t.given n i v).index_below ∙ ap region_bytes (t.given n i v).coordinates-are

      value-is : value (word_of (get_or s.sets n []) r) ≡ value_at job i
      value-is = ap value (t.given n i v).word-is ∙ value-at job i bytes

      gives : (q : ℕ) → q < region_count store → listed axes store q ≡ named_by axes job i → value_of (read_store store b.outer b.inner q) ≡ value_at job i
      gives q l e =
          let x = b.regions q (omega arith) in
          x.gives_back ∙ ap (λ (k : ℕ). value (word_of (get_or s.sets n []) k)) (sym (x.only r below (e ∙ sym named-at))) ∙ value-is

      there : (value_at job i ≡ pos 0 → ⊥) → InStore axes job store i
      there d =
          let x = b.in_list r below (λ z. d (sym value-is ∙ ap value z ∙ zero_is)) in
          record { index = x.index; below = x.below; coordinates = x.coordinates ∙ named-at }

    silent : (q : ℕ) → q < region_count store → ((i : ℕ) → ValueIn job n i → listed axes store q ≡ named_by axes job i → ⊥)
        → value_of (read_store store b.outer b.inner q) ≡ pos 0
    silent q l d =
        let x = b.regions q (omega arith) in
        let k : x.region < length s.used = omega (arith, x.below, coords-long s) in
        x.gives_back
        ∙ ap value (t.unnamed n x.region h k (λ i v c. d i v (x.coordinates ∙ coords-at x.region k ∙ ap region_bytes (sym c))))
        ∙ zero_is

    set-read : SetRead axes job store n at
    set-read = record {
      outer = b.outer;
      inner = b.inner;
      outer_below = b.outer_below;
      inner_below = b.inner_below;
      word-is = b.word-is;
      answers = λ q l. let x = b.regions q (omega arith) in ⊎_elim (λ e. inl (e ∙ ap Written (sym x.gives_back))) (λ e. inr e) x.answers;
      given = gives;
      in_list = there;
      unnamed = silent;
    }

-- THE LAW: of every done build and every end record, by the job's bytes and the lent memory alone
pub bytes_back : (c : Lending) (r : Report) → Bytes c.job → answer_of c ≡ Done r → SetsRead c r
bytes_back c r bytes e =
    let d = demand2 c r bytes e in
    let s = d.said in
    let t = told c.axes c.mode c.job (length c.work) (length c.pairs) s d.said-is in
    record {
      sets-read = λ n h.
          let k : n < length s.sets = omega (arith, t.sets-are) in
          set-read c.axes c.job s bytes t (take r.bytes (after c).lent.out) n (get_or (after c).lent.map (get_or (after c).lent.ids n 0) 0) k (d.sets-back n k);
    }
