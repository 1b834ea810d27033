-- Two facts that are true in the same cases. Assumes nothing.

-- the fact is given by the reason, and only by it
pub record Exactly (Fact Reason : Type 0) : Type 0 where
  pub given : Reason → Fact
  pub only : Fact → Reason
