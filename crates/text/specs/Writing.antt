-- What it is to write text.
use Rattle.std.specs.Prelude.{◌≡◌, ℕ, ◌+◌, ◌<◌, ◌≤◌, List, ◌++◌, length, vec_items, vec_len, vec_capacity, Result, Vec, MatchResult}
use Rattle.std.specs.declared.alloc.Global.{Global}

-- `after` is `before` with the text behind it, and has room for no less
pub record Wrote (before : Vec ℕ Global) (text : List ℕ) (after : Vec ℕ Global) : Type 0 where
  pub is : vec_items after ≡ vec_items before ++ text
  pub room : vec_capacity before ≤ vec_capacity after

-- `before` had no room for the text
pub record Full (before : Vec ℕ Global) (text : List ℕ) : Type 0 where
  pub short : vec_capacity before < vec_len before + length text

-- the text was written; only where there was no room for it may a call fail for want of memory
abbrev pub Writes : {A E : Type 0} → Result A E → Vec ℕ Global → List ℕ → Vec ℕ Global → Type 0
Writes r before text after = MatchResult r (λ _. Wrote before text after) (λ _. Full before text)
