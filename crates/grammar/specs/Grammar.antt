-- The grammar: which lists of tokens read as which trees, one rule for each form.
-- Parentheses group and leave no trace in the tree.
use Rattle.token.specs.declared.kinds.Keyword.TheVariants.{End, Let, Go, To, Of, Read, Print, If, Then, Else}
use Rattle.token.specs.declared.kinds.Sign.TheVariants.{Semicolon, Colon, Becomes, Plus, Minus, Times, Over, Open, Close, Comma, Greater, Equal, Less}
use Rattle.std.specs.Prelude.{ℕ, suc, ◌<◌, List, [], ◌∷◌, ◌++◌, length, take}
use Rattle.token.specs.Tokens.{Token, name, number, keyword, sign}
use Rattle.trees.specs.Trees.{Name, Expr, variable, literal, binary, Command, labelled, empty, assign, go_to, go_to_of, read, print, branch, Program}
use Rattle.trees.specs.declared.operator.Operator.TheVariants.{Plus as plus, Minus as minus, Times as times, Over as over}
use Rattle.trees.specs.declared.relation.Relation.{Relation}
use Rattle.trees.specs.declared.relation.Relation.TheVariants.{Greater as greater, Equal as equal, Less as less}

-- one or more parts, parted by a token: the first part and the further ones
pub data Parted {A : Type 0} (Part : List Token → A → Type 0) (by : Token) : List Token → A → List A → Type 0 where
  one : {ts : List Token} {a : A} → Part ts a → Parted Part by ts a []
  more : {ts us : List Token} {a b : A} {bs : List A} →
      Part ts a → Parted Part by us b bs → Parted Part by (ts ++ by ∷ us) a (b ∷ bs)

-- an operand is a name, a number or an expression in parentheses;
-- "*" and "/" bind closer than "+" and "-", and equals group from the left
mutual
  pub data IsOperand : List Token → Expr → Type 0 where
    a_variable : {n : Name} → IsOperand (name n ∷ []) (variable n)
    a_literal : {n : List ℕ} → IsOperand (number n ∷ []) (literal n)
    in_parentheses : {ts : List Token} {e : Expr} →
        IsExpression ts e → IsOperand (sign Open ∷ ts ++ sign Close ∷ []) e

  pub data IsTerm : List Token → Expr → Type 0 where
    an_operand : {ts : List Token} {e : Expr} → IsOperand ts e → IsTerm ts e
    a_product : {ts us : List Token} {a b : Expr} →
        IsTerm ts a → IsOperand us b → IsTerm (ts ++ sign Times ∷ us) (binary times a b)
    a_quotient : {ts us : List Token} {a b : Expr} →
        IsTerm ts a → IsOperand us b → IsTerm (ts ++ sign Over ∷ us) (binary over a b)

  pub data IsExpression : List Token → Expr → Type 0 where
    a_term : {ts : List Token} {e : Expr} → IsTerm ts e → IsExpression ts e
    a_sum : {ts us : List Token} {a b : Expr} →
        IsExpression ts a → IsTerm us b → IsExpression (ts ++ sign Plus ∷ us) (binary plus a b)
    a_difference : {ts us : List Token} {a b : Expr} →
        IsExpression ts a → IsTerm us b → IsExpression (ts ++ sign Minus ∷ us) (binary minus a b)

abbrev pub relation_sign : Relation → Token
relation_sign greater = sign Greater
relation_sign equal = sign Equal
relation_sign less = sign Less

pub data IsName : List Token → Name → Type 0 where
  a_name : {n : Name} → IsName (name n ∷ []) n

-- names, and expressions, parted by commas
abbrev pub AreNames : List Token → Name → List Name → Type 0
AreNames = Parted IsName (sign Comma)

abbrev pub AreExpressions : List Token → Expr → List Expr → Type 0
AreExpressions = Parted IsExpression (sign Comma)

-- any count of labels, then nothing or one of the six forms
pub data IsCommand : List Token → Command → Type 0 where
  a_label : {ts : List Token} {n : Name} {c : Command} →
      IsCommand ts c → IsCommand (name n ∷ sign Colon ∷ ts) (labelled n c)
  nothing : IsCommand [] empty
  a_let : {ts : List Token} {n : Name} {e : Expr} →
      IsExpression ts e → IsCommand (keyword Let ∷ name n ∷ sign Becomes ∷ ts) (assign n e)
  a_go_to : {n : Name} → IsCommand (keyword Go ∷ keyword To ∷ name n ∷ []) (go_to n)
  a_go_to_of : {ts : List Token} {n m : Name} {ms : List Name} →
      AreNames ts m ms → IsCommand (keyword Go ∷ keyword To ∷ name n ∷ keyword Of ∷ ts) (go_to_of n m ms)
  a_read_alone : IsCommand (keyword Read ∷ []) (read [])
  a_read : {ts : List Token} {n : Name} {ns : List Name} →
      AreNames ts n ns → IsCommand (keyword Read ∷ ts) (read (n ∷ ns))
  a_print_alone : IsCommand (keyword Print ∷ []) (print [])
  a_print : {ts : List Token} {e : Expr} {es : List Expr} →
      AreExpressions ts e es → IsCommand (keyword Print ∷ ts) (print (e ∷ es))
  an_if : {ts us vs ws : List Token} {a b : Expr} {o : Relation} {c d : Command} →
      IsExpression ts a → IsExpression us b → IsCommand vs c → IsCommand ws d →
      IsCommand (keyword If ∷ ts ++ relation_sign o ∷ us ++ keyword Then ∷ vs ++ keyword Else ∷ ws) (branch o a b c d)

-- commands parted by ";", then END, then no token more
pub data Parses : List Token → Program → Type 0 where
  program : {ts : List Token} {c : Command} {cs : List Command} →
      Parted IsCommand (sign Semicolon) ts c cs → Parses (ts ++ keyword End ∷ []) (record { first = c; more = cs })

-- the tokens are a program
abbrev pub IsProgram : List Token → Type 0
IsProgram ts = (p : Program) × Parses ts p

-- some program begins with the tokens
abbrev pub Begins : List Token → Type 0
Begins ts = (rest : List Token) × IsProgram (ts ++ rest)

-- the first fault of tokens stands at the token with which no program begins any more,
-- or at the end, if a program begins with the tokens and they are none
pub data Fault (ts : List Token) : ℕ → Type 0 where
  at_token : {k : ℕ} → k < length ts → Begins (take k ts) → (Begins (take (suc k) ts) → ⊥) → Fault ts k
  at_end : Begins ts → (IsProgram ts → ⊥) → Fault ts (length ts)
