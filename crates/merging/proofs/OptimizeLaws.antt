-- The whole of merging, from the starting groups to the living ones. Assumes nothing.
use mathlib.Core.Path.{◌≡◌, refl, sym, ap, subst, ◌∙◌}
use mathlib.Core.Logic.{⊎_elim}
use mathlib.Core.List.Memᴰ
use mathlib.Core.List.{List, [], ◌∷◌}
use Prim.Native.Nat.{ℕ, zero, suc, ◌+◌, ◌-◌, ◌*◌, ◌≤◌, ◌<◌}
use native.Mathlib.Nat.{add-zero}
use native.Mathlib.Omega.{arith}
use lib.ListN.{length, get_or}
use Rattle.laws.specs.Bag.{weigh}
use Rattle.laws.specs.Bounded.{tabulate}
use Rattle.laws.specs.Every.{All}
use Rattle.laws.specs.LentRange.{seg}
use Rattle.laws.proofs.Cases.{same_or_not}
use Rattle.laws.proofs.EveryLaws.{all-imp}
use Rattle.laws.proofs.BoundedLaws.{tabulate-same, length-tabulate}
use Rattle.laws.proofs.RangeLaws.{only-trans, only-weaken, only-seg, seg-none, apart-part}
use Rattle.shapes.specs.Group.{Group, group_cost}
use Rattle.rule.specs.Model.{Living, State, number, start, run, merged, total}
use Rattle.rule.specs.Told.{Among, words}
use Rattle.rule.proofs.Theorems.{pairs-count, number-length}
use Rattle.slots.specs.declared.tables.MergeTables.{MergeTables}
use Rattle.slots.specs.Lent.{Laid, Sound, MeasuredAll, group_in, starting}
use Rattle.pairs.specs.declared.Pair.{Pair}
use Rattle.waits.specs.LentWaits.{place_of, group_of, alive, Opening, Opened}
use Rattle.merging.specs.LentHeld.{Lives, Held, Standing, Ran}
use Rattle.merging.specs.LentHeld.Reaches.{here}
use Rattle.merging.specs.LentOptimized.{Ready, Optimized, GroupsPlaced, Onward, AllResolved}
use Rattle.slots.proofs.SlotLaws.{laid_kept}
use Rattle.waits.proofs.WaitLaws.{group-of-kept, alive-one, sum_ones}
use Rattle.merging.proofs.JoinLaws.{frame-sound, frame-groups}
use Rattle.merging.proofs.HeldLaws.{merges-less, merges-few}
use Rattle.merging.proofs.RunLaws.{standing-done}

-- ---- the starting groups, numbered

abbrev one : (ℕ → Group) → ℕ → Living
one f c = record { num = c; group = f c; origins = c ∷ [] }

number-all : (P : Living → Type 0) (f : ℕ → Group) (a n : ℕ) → ((c : ℕ) → a ≤ c → c < a + n → P (one f c)) → All P (number a (tabulate a n f))
unfolding number tabulate
number-all P f a zero h = tt
number-all P f a (suc n) h = (h a (omega arith) (omega arith), number-all P f (suc a) n (λ c p q. h c (omega arith) (omega arith)))

number-among : (f : ℕ → Group) (a n c : ℕ) → a ≤ c → c < a + n → Among (number a (tabulate a n f)) c
unfolding number tabulate
number-among f a zero c p q = absurd (omega arith)
number-among f a (suc n) c p q = ⊎_elim
    (λ (e : c ≡ a). record { one = one f a; here = Memᴰ.head refl; num-is = sym e })
    (λ d.
    let r = number-among f (suc a) n c (omega arith) (omega arith) in
    record { one = r.one; here = Memᴰ.tail r.here; num-is = r.num-is })
    (same_or_not c a)

number-total : (k : ℕ) (xs : List Group) → total (number k xs) ≡ weigh group_cost xs
unfolding total number weigh
number-total k [] = refl
number-total k (x ∷ xs) = ap (λ (i : ℕ). group_cost x + i) (number-total (suc k) xs)

-- ---- the beginning

module _ (t : MergeTables) (w w₁ : List ℕ) (h : Ready t w) (q : MeasuredAll t w w₁) where
  lies : Laid t (length w)
  lies = h.shaped.laid

  lies₁ : Laid t (length w₁)
  lies₁ = laid_kept t w w₁ lies q.only

  order₁ : (i : ℕ) → i < t.groups → get_or w₁ (t.order + i) 0 ≡ get_or w (t.order + i) 0
  order₁ i l = q.only.kept (t.order + i) (omega (arith, lies))

  groups₁ : (s : ℕ) → s < t.groups → group_in t w₁ s ≡ group_in t w s
  groups₁ = frame-groups t w w₁ lies q.only (λ k a b. omega (arith, lies)) (λ k a b. omega (arith, lies))

  starting₁ : starting t w₁ ≡ starting t w
  unfolding starting
  starting₁ =
      tabulate-same 0 t.groups (λ i. group_in t w₁ (get_or w₁ (t.order + i) 0)) (λ i. group_in t w (get_or w (t.order + i) 0))
      (λ i a b. let l : i < t.groups = omega arith in ap (group_in t w₁) (order₁ i l) ∙ groups₁ (get_or w (t.order + i) 0) (h.dealt.within i l))

  module _ (w₂ : List ℕ) (s : GroupsPlaced t w₁ w₂) where
    lies₂ : Laid t (length w₂)
    lies₂ = laid_kept t w₁ w₂ lies₁ s.only

    place₂ : (i : ℕ) → i < t.groups → place_of t w₂ i ≡ get_or w (t.order + i) 0 + 1
    place₂ i l = s.is i l ∙ ap (λ (x : ℕ). x + 1) (order₁ i l)

    sound₂ : Sound t w₂
    sound₂ = frame-sound t w₁ w₂ lies₁ s.only (λ k a b. omega (arith, lies)) (λ k a b. omega (arith, lies)) (λ k a b. omega (arith, lies)) (λ k a b. omega (arith, lies)) q.sound

    groups₂ : (i : ℕ) → i < t.groups → group_in t w₂ i ≡ group_in t w i
    groups₂ i l = frame-groups t w₁ w₂ lies₁ s.only (λ k a b. omega (arith, lies)) (λ k a b. omega (arith, lies)) i l ∙ groups₁ i l

    pub opening : Opening t w₂
    opening = record {
      sound = sound₂;
      living = λ c l. let a = h.dealt.within c l in let b = place₂ c l in (omega arith, omega arith);
    }

    group₂ : (i : ℕ) → i < t.groups → group_of t w₂ i ≡ group_in t w (get_or w (t.order + i) 0)
    unfolding group_of
    group₂ i l =
        let v = get_or w (t.order + i) 0 in
        let e : place_of t w₂ i - 1 ≡ v = omega (arith, place₂ i l) in
        ap (group_in t w₂) e ∙ groups₂ v (h.dealt.within i l)

    module _ (n m : ℕ) (ps ps' : List Pair) (o : Opened t n m w₂ ps ps') where
      lives : (c : ℕ) → c < t.groups → Lives t w₂ (one (λ i. group_in t w (get_or w (t.order + i) 0)) c)
      lives c l = record {
        known = omega arith;
        alive = omega (arith, place₂ c l);
        slot = omega (arith, place₂ c l, h.dealt.within c l);
        is = group₂ c l;
      }

      abbrev xs : List Group
      xs = starting t w

      many : length xs ≡ t.groups
      unfolding starting
      many = length-tabulate 0 t.groups (λ i. group_in t w (get_or w (t.order + i) 0))

      held : Held t (start xs) 0 w₂
      unfolding start starting words
      held = record {
        sound = sound₂;
        next-is = many ∙ sym (add-zero t.groups);
        log-long = refl;
        placed = record { within = λ c l. let i : c < t.groups = omega arith in omega (arith, place₂ c i, h.dealt.within c i) };
        apart = λ c d l k a e.
            let i : d < t.groups = omega arith in
            h.dealt.apart c d l i (omega (arith, place₂ c (omega arith), place₂ d i));
        lives = number-all (Lives t w₂) (λ i. group_in t w (get_or w (t.order + i) 0)) 0 t.groups (λ c a b. lives c (omega arith));
        found = λ c l a. number-among (λ i. group_in t w (get_or w (t.order + i) 0)) 0 t.groups c (omega arith) (omega arith);
        counted =
            sum_ones (alive t w₂) (t.groups + 0) (λ c l. let i : c < t.groups = omega arith in alive-one t w₂ c (λ z. omega (arith, place₂ c i)))
            ∙ add-zero t.groups ∙ sym (number-length 0 xs ∙ many);
        log_is = seg-none t.log w₂;
        onward = λ c l e. let i : c < t.groups = omega arith in absurd (omega (arith, place₂ c i));
        homes = number-all _ (λ i. group_in t w (get_or w (t.order + i) 0)) 0 t.groups (λ c a b. (here c (omega arith) (lives c (omega arith)).alive, tt));
      }

      weighed : m ≡ (start xs).weighed
      unfolding start
      weighed =
          let a = pairs-count (number 0 xs) in
          let b : length (number 0 xs) ≡ t.groups = number-length 0 xs ∙ many in
          let c = rw b at a in
          let d = o.weighed in
          omega arith

      pub begun : (z : ℕ) → z ≡ weigh group_cost (starting t w₁) → Standing t (starting t w) n m 0 z w₂ ps'
      unfolding run
      begun z e = record {
        many = many;
        sets-few = h.sets-few;
        held = held;
        waits = rw add-zero o.waits;
        weighed = weighed;
        few = o.few;
        size_is = e ∙ ap (weigh group_cost) starting₁ ∙ sym total₀;
      }
        where
          total₀ : total (start xs).living ≡ weigh group_cost xs
          total₀ = unfold start in number-total 0 xs

-- ---- the end

module _ {t : MergeTables} {xs : List Group} {n m j z : ℕ} {w : List ℕ} {ps : List Pair} (s : Standing t xs n m j z w ps) where
  pub onward : Onward t (t.groups + j) w
  onward = record { laid = s.held.sound.shaped.laid; most = merges-few t xs j w s.many s.held; later = s.held.onward }

  module _ (w' : List ℕ) (f : AllResolved t (t.groups + j) w w') where
    sits : Laid t (length w)
    sits = s.held.sound.shaped.laid

    end-place : (c : ℕ) → c < 2 * t.groups → place_of t w' c ≡ place_of t w c
    end-place c l = f.only.kept (t.place + c) (omega (arith, sits))

    end-groups : (i : ℕ) → i < t.groups → group_in t w' i ≡ group_in t w i
    end-groups = frame-groups t w w' sits f.only (λ k a b. omega (arith, sits)) (λ k a b. omega (arith, sits))

    end-lives : All (Lives t w') (run j (start xs)).living
    end-lives =
        all-imp
        (λ g l.
        let e = end-place g.num l.known in
        record {
          known = l.known;
          alive = omega (arith, l.alive);
          slot = omega (arith, l.slot);
          is = group-of-kept t w w' g.num (omega (arith, l.known)) l.slot e end-groups ∙ l.is;
        })
        (run j (start xs)).living
        s.held.lives

    end-dead : (c : ℕ) → c < t.groups + j → 0 < place_of t w' c → Among (run j (start xs)).living c
    end-dead c l a = s.held.found c l (omega (arith, end-place c (omega (arith, merges-few t xs j w s.many s.held))))

    end-apart : (c d : ℕ) → c < d → d < t.groups + j → 0 < place_of t w' c → place_of t w' c ≡ place_of t w' d → ⊥
    end-apart c d l k a e =
        let m = merges-few t xs j w s.many s.held in
        let ec = end-place c (omega arith) in
        let ed = end-place d (omega arith) in
        s.held.apart c d l k (omega arith) (sym ec ∙ e ∙ ed)

    end-sound : Sound t w'
    end-sound = frame-sound t w w' sits f.only (λ k a b. omega (arith, sits)) (λ k a b. omega (arith, sits)) (λ k a b. omega (arith, sits)) (λ k a b. omega (arith, sits)) s.held.sound

    end-log : seg t.log (3 * j) w' ≡ words (run j (start xs)).log
    end-log =
        only-seg f.only t.log (3 * j) (omega (arith, sits, merges-less t xs j w s.many s.held)) (λ k a b. omega (arith, sits)) ∙ s.held.log_is

    end-homes : All (λ g. All (λ i. get_or w' (t.into + i) 0 ≡ g.num) g.origins) (run j (start xs)).living
    end-homes = all-imp (λ g. all-imp (λ i r. f.is i g.num r) g.origins) (run j (start xs)).living s.held.homes

module _ {t : MergeTables} {w w₁ w₂ : List ℕ} {ps ps₁ : List Pair} {z n m : ℕ} (h : Ready t w) (q : MeasuredAll t w w₁) (e : z ≡ weigh group_cost (starting t w₁))
    (s : GroupsPlaced t w₁ w₂) (o : Opened t n m w₂ ps ps₁) where
  pub optimize-begun : Standing t (starting t w) n m 0 z w₂ ps₁
  optimize-begun = begun t w w₁ h q w₂ s n m ps ps₁ o z e

  module _ {w₄ : List ℕ} {ps₂ : List Pair} {n' m' j z' : ℕ} (r : Ran t n m 0 z n' m' j z' w₂ w₄ ps₁ ps₂) where
    ended : Standing t (starting t w) n' m' j z' w₄ ps₂
    ended = r.stands (starting t w) optimize-begun

    pub optimize-onward : Onward t (t.groups + j) w₄
    optimize-onward = onward ended

    pub optimize-few : t.groups + j ≤ 2 * t.groups
    optimize-few = merges-few t (starting t w) j w₄ ended.many ended.held

    pub optimized : {w₅ : List ℕ} → AllResolved t (t.groups + j) w₄ w₅ → Optimized t j m' z z' w w₅
    unfolding run
    optimized {w₅} f =
        let xs = starting t w in
        let a = optimize-begun in
        let b = ended in
        let c : Standing t xs 0 m' j z' w₄ ps₂ = rw r.done at b in
        let d : run j (start xs) ≡ merged xs = standing-done t xs m' j z' w₄ ps₂ c in
        record {
          only = only-trans (only-weaken (λ k u. (u.1.1.1.0, (u.1.1.1.1.0, (u.1.1.1.1.1.1.1.0, tt)))) q.only)
              (only-trans (only-weaken (λ k u. (apart-part u.1.1.0 (omega arith) (omega arith), tt)) s.only)
              (only-trans r.only (only-weaken (λ k u. (u.1.1.1.1.1.0, tt)) f.only)));
          merges-are = sym b.held.log-long ∙ ap (λ (i : State). length i.log) d;
          weighed-are = b.weighed ∙ ap (λ (i : State). i.weighed) d;
          before-is = a.size_is;
          after_is = b.size_is ∙ ap (λ (i : State). total i.living) d;
          log_is = end-log b w₅ f ∙ ap (λ (i : State). words i.log) d;
          lives = subst (λ (i : State). All (Lives t w₅) i.living) d (end-lives b w₅ f);
          others-dead = subst (λ (i : State). (c : ℕ) → c < t.groups + j → 0 < place_of t w₅ c → Among i.living c) d (end-dead b w₅ f);
          apart = end-apart b w₅ f;
          sound = end-sound b w₅ f;
          homes = subst (λ (i : State). All (λ g. All (λ i. get_or w₅ (t.into + i) 0 ≡ g.num) g.origins) i.living) d (end-homes b w₅ f);
        }
