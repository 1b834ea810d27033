-- The turns of the run, and its end. Assumes nothing.
use mathlib.Core.Path.{◌≡◌, refl, ap₂, ◌∙◌}
use mathlib.Core.Logic.{◌⊎◌, ⊎_elim}
use mathlib.Core.List.{List, Memᴰ}
use Prim.Native.Nat.{ℕ, ◌+◌, ◌-◌, ◌*◌, ◌≤◌, ◌<◌}
use native.Mathlib.Omega.{arith}
use lib.ListN.{length}
use Rattle.laws.specs.Bag.{sum}
use Rattle.laws.specs.LentRange.{Only}
use Rattle.laws.proofs.Cases.{same_or_not}
use Rattle.laws.proofs.RangeLaws.{only-refl}
use Rattle.shapes.specs.Group.{Group, gain}
use Rattle.rule.specs.Model.{Living, gain_of, start, run, merged}
use Rattle.rule.proofs.Theorems.{weighed-few}
use Rattle.rule.proofs.Bridge.{has, run-numbered, two-intro, merged-is}
use Rattle.pairs.specs.declared.Pair.{Pair}
use Rattle.pairs.specs.LentQueue.{HeapOrdered, SameFrom, Popped, Numbered, KeptMarked}
use Rattle.slots.specs.declared.tables.MergeTables.{MergeTables}
use Rattle.slots.specs.Lent.{Laid}
use Rattle.waits.specs.LentWaits.{room, place_of, group_of, alive, Reached, Asked, OfferedAll}
use Rattle.merging.specs.LentHeld.{written, Lives, Standing, Chosen, Joinable, JoinedAt, SomeStanding, Turned, Tidied}
use Rattle.waits.proofs.WaitLaws.{room-is, waits_kept, waits-numbered}
use Rattle.merging.proofs.HeldLaws.{merges-few, chosen-taken, chosen-dead}
use Rattle.merging.proofs.MergeLaws.{joinable, joined-asked, joined-room, joined-stands, joined-less, gain-fits}

-- ---- a turn

-- no more pairs were weighed than there is room for
pub weighed-room : (t : MergeTables) (xs : List Group) (n m j z : ℕ) (w : List ℕ) (ps : List Pair) → Standing t xs n m j z w ps → m ≤ room t.groups
weighed-room t xs n m j z w ps s =
    let b = rw s.many at (weighed-few j xs) in
    omega (arith, s.weighed, room-is t.groups)

module _ {t : MergeTables} {n m j z : ℕ} {w : List ℕ} {ps : List Pair} (s : SomeStanding t n m j z w ps) where
  pub turn-laid : Laid t (length w)
  turn-laid = s.standing.held.sound.shaped.laid

  pub turn-room : n ≤ room t.groups
  turn-room = omega (arith, s.standing.few, weighed-room t s.groups n m j z w ps s.standing)

  pub turn-merges : t.groups + j ≤ 2 * t.groups
  turn-merges = merges-few t s.groups j w s.standing.many s.standing.held

  pub turn-ordered : HeapOrdered ps n
  turn-ordered = s.standing.waits.ordered

  -- the best pair is taken
  module _ {p : Pair} {ps₁ : List Pair} (o : Popped ps n p ps₁) where
    chosen : (xs : List Group) → Standing t xs n m j z w ps → Chosen t xs (n - 1) m j z p w ps₁
    chosen xs q = chosen-taken t xs n m j z p w ps ps₁ q o

    -- its numbers are known
    pub turn-known : (t.place + p.first < length w) × (t.place + p.second < length w)
    turn-known =
        let d = turn-laid in
        let c = chosen s.groups s.standing in
        let f = merges-few t s.groups j w c.many c.held in
        let r = c.own.reached in
        let l : p.second < t.groups + j = ⊎_elim (λ (e : p.second ≡ t.groups + j). absurd (omega (arith, r.last e))) (λ d. omega (arith, r.below)) (same_or_not p.second (t.groups + j)) in
        (omega (arith, r.order, d), omega (arith, d))

    same_rest : SameFrom ps (room t.groups) ps₁
    same_rest i l = o.rest i (omega (arith, turn-room))

    -- one of its two is dead: it is passed over
    pub turned-dead : (place_of t w p.first ≡ 0) ⊎ (place_of t w p.second ≡ 0) → Turned t n m j z (n - 1) m j z w w ps ps₁
    turned-dead d = record {
      only = only-refl (written t) w;
      stands = λ xs q. chosen-dead t xs (n - 1) m j z p w ps₁ (chosen xs q) d;
      less = omega (arith, o.some);
      rest = same_rest;
    }

    -- both live: it is joined
    module _ (x : 0 < place_of t w p.first) (y : 0 < place_of t w p.second) where
      pub turn-joinable : Joinable t j p w
      turn-joinable = joinable t s.groups (n - 1) m j z p w ps₁ (chosen s.groups s.standing) x y

      pub turn-gain : p.gain ≤ z
      turn-gain = gain-fits t s.groups (n - 1) m j z p w ps₁ (chosen s.groups s.standing) x y

      module _ {w₁ : List ℕ} {n₁ m₁ j₁ z₁ : ℕ} (r : JoinedAt t p (n - 1) m j z n₁ m₁ j₁ z₁ w w₁) where
        pub turn-asked : Asked t (t.groups + j) 0 (n - 1) w₁ ps₁
        turn-asked = joined-asked t s.groups (n - 1) m j z p w ps₁ (chosen s.groups s.standing) x y w₁ r.pair-joined

        pub turn_more : (n - 1 + sum (alive t w₁) (t.groups + j) ≤ room t.groups) × (m + sum (alive t w₁) (t.groups + j) ≤ room t.groups)
        turn_more = joined-room t s.groups (n - 1) m j z p w ps₁ (chosen s.groups s.standing) x y w₁ r.pair-joined

        pub turned-joined : {ps₂ : List Pair} {n₂ m₂ : ℕ} → OfferedAll t (t.groups + j) (n - 1) m n₂ m₂ w₁ ps₁ ps₂ → Turned t n m j z n₂ m₂ j₁ z₁ w w₁ ps ps₂
        turned-joined {ps₂} {n₂} {m₂} q = record {
          only = r.pair-joined.only;
          stands = λ xs h. rw (r.one_more, r.falls) (joined-stands t xs (n - 1) m j z p w ps₁ (chosen xs h) x y w₁ r.pair-joined ps₂ n₂ m₂ q);
          less = omega (arith, o.some, (joined-less t s.groups (n - 1) m j z p w ps₁ (chosen s.groups s.standing) x y w₁ r.pair-joined ps₂ n₂ m₂ q).1);
          rest = λ i l. q.rest i l ∙ same_rest i l;
        }

-- ---- dead pairs dropped

module _ {t : MergeTables} {n m j z : ℕ} {w : List ℕ} {ps : List Pair} (s : SomeStanding t n m j z w ps) where
  pub tidy-numbered : Numbered w t.place ps n
  tidy-numbered = waits-numbered (turn-laid s) (turn-merges s) s.standing.waits

  pub tidied-kept : {n' : ℕ} {ps' : List Pair} → KeptMarked w t.place ps n n' ps' → Tidied t n m j z n' m j z w ps ps'
  tidied-kept u = record {
    stands = λ xs q. record {
      many = q.many;
      sets-few = q.sets-few;
      held = q.held;
      waits = waits_kept q.waits u;
      weighed = q.weighed;
      few = omega (arith, q.few, u.fewer);
      size_is = q.size_is;
    };
    fewer = u.fewer;
    weighed-same = refl;
    rest = λ i l. u.rest i (omega (arith, turn-room s, u.fewer));
  }

-- ---- the run

pub record Running (t : MergeTables) (n₀ m₀ j₀ z₀ n m j z : ℕ) (w₀ w : List ℕ) (ps₀ ps : List Pair) : Type 0 where
  pub only : Only (written t) w₀ w
  pub some : SomeStanding t n m j z w ps
  pub stands : (xs : List Group) → Standing t xs n₀ m₀ j₀ z₀ w₀ ps₀ → Standing t xs n m j z w ps
  pub rest : SameFrom ps₀ (room t.groups) ps

module _ {t : MergeTables} {n₀ m₀ j₀ z₀ n m j z : ℕ} {w₀ w : List ℕ} {ps₀ ps : List Pair} (r : Running t n₀ m₀ j₀ z₀ n m j z w₀ w ps₀ ps) where
  module _ {n' m' j' z' : ℕ} {w' : List ℕ} {ps' : List Pair} (d : Turned t n m j z n' m' j' z' w w' ps ps') where
    module _ {n'' m'' j'' z'' : ℕ} {ps'' : List Pair} (u : Tidied t n' m' j' z' n'' m'' j'' z'' w' ps' ps'') where
      -- each turn there is less to come
      pub running-less : room t.groups - m'' + n'' < room t.groups - m + n
      running-less =
          let a = weighed-room t r.some.groups n m j z w ps r.some.standing in
          let b = weighed-room t r.some.groups n' m' j' z' w' ps' (d.stands r.some.groups r.some.standing) in
          omega (arith, d.less, u.fewer, u.weighed-same)

-- ---- its end: nothing waits, so no two living groups gain

pub standing-done : (t : MergeTables) (xs : List Group) (m j z : ℕ) (w : List ℕ) (ps : List Pair) → Standing t xs 0 m j z w ps → run j (start xs) ≡ merged xs
standing-done t xs m j z w ps s = merged-is j xs (two-intro _ (run j (start xs)).living (run-numbered j xs).1 go)
  where
    lives-of : (i : Living) → Memᴰ i (run j (start xs)).living → Lives t w i
    lives-of i e = has (Lives t w) (run j (start xs)).living s.held.lives i e

    go : (a b : Living) → Memᴰ a (run j (start xs)).living → Memᴰ b (run j (start xs)).living → a.num < b.num → gain_of a b ≡ 0
    go a b ma mb l = ⊎_elim
        (λ (e : gain_of a b ≡ 0). e)
        (λ d.
        let la = lives-of a ma in
        let lb = lives-of b mb in
        let e : gain (group_of t w a.num) (group_of t w b.num) ≡ gain_of a b = ap₂ gain la.is lb.is in
        let nb = has (λ i. i.num < (run j (start xs)).next) (run j (start xs)).living (run-numbered j xs).0 b mb in
        let x = s.held.next-is in
        let r : Reached (t.groups + j) 0 a.num b.num = record { order = l; below = omega arith; last = λ q. absurd (omega arith) } in
        let h = s.waits.all a.num b.num r la.alive lb.alive (omega arith) in
        absurd (omega (arith, h.below)))
        (same_or_not (gain_of a b) 0)
