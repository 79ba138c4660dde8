-- The theorems about the grammar.
use Rattle.std.specs.Prelude.{◌≡◌, ℕ, suc, T, List, [], ◌∷◌, ◌++◌, length, take, drop}
use Rattle.std.proofs.Math.Option.{none, some}
use Rattle.token.specs.Tokens.{Token}
use Rattle.trees.specs.Trees.{Program}
use Rattle.grammar.specs.Grammar.{Parses, IsProgram, Begins, Fault}
use Rattle.grammar.specs.Machine.{parse}
use Rattle.grammar.specs.Recogniser.{State, stack_step, reach, accepting, first_fault}

-- a list of tokens reads as one tree at most
abbrev pub OneReading : Type 0
OneReading = (ts : List Token) (p q : Program) → Parses ts p → Parses ts q → p ≡ q

-- `parse` finds the tree of the tokens, if they have one
pub record Parser : Type 0 where
  pub sound : (ts : List Token) (p : Program) → parse ts ≡ some p → Parses ts p
  pub complete : (ts : List Token) (p : Program) → Parses ts p → parse ts ≡ some p

-- the recogniser accepts exactly the programs
pub record Exact : Type 0 where
  pub sound : (ts : List Token) → T (accepting (reach ts)) → IsProgram ts
  pub complete : (ts : List Token) → IsProgram ts → T (accepting (reach ts))

-- it goes on exactly as long as a program begins with the tokens so far:
-- it refuses the first token with which none begins, and no other
pub record Viable : Type 0 where
  pub goes_on : (ts : List Token) (k : List State) → reach ts ≡ some k → Begins ts
  pub refuses : (ts : List Token) (k : List State) (t : Token) → reach ts ≡ some k → stack_step k t ≡ none → Begins (ts ++ t ∷ []) → ⊥
  pub stays : (ts : List Token) → reach ts ≡ none → Begins ts → ⊥

-- tokens are a program, or their first fault stands at one index; `first_fault` says which
pub record OneFault : Type 0 where
  pub none_program : (ts : List Token) → first_fault ts ≡ none → IsProgram ts
  pub program_none : (ts : List Token) → IsProgram ts → first_fault ts ≡ none
  pub some_fault : (ts : List Token) (k : ℕ) → first_fault ts ≡ some k → Fault ts k
  pub fault_some : (ts : List Token) (k : ℕ) → Fault ts k → first_fault ts ≡ some k

-- The first fault, found step by step: after the first k tokens the recogniser has the stack s.
pub record Steps : Type 0 where
  -- a token that it refuses is the first fault, and one that it takes is none
  pub refused : (ts : List Token) (k : ℕ) (s : List State) (t : Token) (r : List Token) →
      reach (take k ts) ≡ some s → drop k ts ≡ t ∷ r → stack_step s t ≡ none → Fault ts k
  pub taken : (ts : List Token) (k : ℕ) (s : List State) (t : Token) (r : List Token) (next : List State) →
      reach (take k ts) ≡ some s → drop k ts ≡ t ∷ r → stack_step s t ≡ some next → (reach (take (suc k) ts) ≡ some next) × (Fault ts k → ⊥)
  -- at the end the tokens are a program if the stack is empty; else the end is the first fault
  pub closed : (ts : List Token) → reach ts ≡ some [] → IsProgram ts
  pub unfinished : (ts : List Token) (s : State) (k : List State) → reach ts ≡ some (s ∷ k) → Fault ts (length ts)
