-- What is told of a state of the rule: the number of a living group, the log as words. Assumes nothing.
use Rattle.std.specs.Prelude.{◌≡◌, ℕ}
use mathlib.Core.List.{List, [], ◌∷◌, Memᴰ}
use Rattle.rule.specs.Model.{Living, Entry}

-- c is the number of a living group
pub record Among (l : List Living) (c : ℕ) : Type 0 where
  pub one : Living
  pub here : Memᴰ one l
  pub num-is : one.num ≡ c

-- the words of a log
unfoldable pub words : List Entry → List ℕ
words [] = []
words (e ∷ l) = e.first ∷ e.second ∷ e.gain ∷ words l
