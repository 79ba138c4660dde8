-- The refusals of a text as rules: which stands at which token, and which one counts.
use Rattle.token.specs.declared.kinds.Keyword.TheVariants.{If}
use Rattle.token.specs.declared.kinds.Sign.TheVariants.{Open}
use Rattle.std.specs.Prelude.{◌≡◌, ℕ, ◌<◌, ◌≤◌, Bool, true, false, List, [], ◌∷◌, map, reverse, length, take, drop, ◌≢◌}
use Rattle.std.proofs.Math.Option.{some}
use Rattle.token.specs.Tokens.{Token, keyword, sign, Placed}
use Rattle.trees.specs.Trees.{Program}
use Rattle.arithmetic.specs.Words.{Words}
use Rattle.grammar.specs.Tests.{is}
use Rattle.grammar.specs.Grammar.{Parses, Fault}
use Rattle.limits.specs.Uses.{Role, definition, listed, Use, made, use_at, uses_before, is_literal, is_label, key_by, cells, labels, is_operator, operators, depth, parts, names}

-- The limits.

-- the most bytes of a text, and of a name
abbrev pub text_limit : ℕ
text_limit = 32768

abbrev pub name_limit : ℕ
name_limit = 32

-- the most distinct variables and number words, and the most distinct labels
abbrev pub cell_limit : ℕ
cell_limit = 446

abbrev pub label_limit : ℕ
label_limit = 256

-- the most operators of a whole expression
abbrev pub operator_limit : ℕ
operator_limit = 64

-- the deepest that parentheses, and IFs, stand inside one another
abbrev pub depth_limit : ℕ
depth_limit = 32

-- the most labels after OF
abbrev pub list_limit : ℕ
list_limit = 64

-- the most words of code
abbrev pub code_limit : ℕ
code_limit = 4096

-- the token here passes a test
abbrev pub here : (Token → Bool) → List Token → Bool
here test [] = false
here test (t ∷ rest) = test t

module _ (ts : List Token) where
  -- the tokens before the k-th, newest first, and those from it on
  abbrev pub past : ℕ → List Token
  past k = reverse (take k ts)

  abbrev pub rest : ℕ → List Token
  rest k = drop k ts

  -- the uses among the first k tokens, newest first
  abbrev pub seen : ℕ → List Use
  seen k = uses_before (past k) (rest k)

  -- the k-th token is used in a role, with a spelling
  pub record Used (k : ℕ) (r : Role) (s : List ℕ) : Type 0 where
    pub is_used : use_at (past k) (rest k) ≡ some (made r s)

  -- a token before the k-th is used so
  pub record Earlier (k : ℕ) (r : Role) (s : List ℕ) : Type 0 where
    pub index : ℕ
    pub earlier : index < k
    pub used : Used index r s

  -- the k-th token mentions a label that stands before no command
  pub record Unmet (k : ℕ) : Type 0 where
    pub role : Role
    pub spelling : List ℕ
    pub mentioned : Used k role spelling
    pub label : is_label role ≡ true
    pub nowhere : (j : ℕ) → Used j definition spelling → ⊥

  -- each label that is mentioned stands before a command
  abbrev pub Met : Type 0
  Met = (k : ℕ) → Unmet k → ⊥

module _ (w : Words) (ts : List Token) where
  -- no token before the k-th has the symbol
  abbrev pub New : ℕ → Role → List ℕ → Type 0
  New k r s = (q : Role) (t : List ℕ) → Earlier ts k q t → key_by w q t ≢ key_by w r s

  -- The refusal n stands at the k-th token; the end counts as a token. Behind the first fault rules may stand too,
  -- which then do not count.
  pub data Rule (k : ℕ) : ℕ → Type 0 where
    -- with it no program begins
    no_program : Fault ts k → Rule k 3
    -- a name is too long
    long_name : (r : Role) (s : List ℕ) → Used ts k r s → is_literal r ≡ false → name_limit < length s → Rule k 4
    -- a label stands before a command a second time
    second_definition : (s : List ℕ) → Used ts k definition s → Earlier ts k definition s → Rule k 5
    -- a name is used as a label and as a variable
    other_kind : (r q : Role) (s : List ℕ) → Used ts k r s → Earlier ts k q s → is_literal r ≡ false → is_literal q ≡ false →
        (is_label r ≢ is_label q) → Rule k 6
    -- one variable or number word too many; one label too many
    no_cell : (r : Role) (s : List ℕ) → Used ts k r s → is_label r ≡ false → New k r s → cell_limit ≤ cells w (seen ts k) → Rule k 7
    no_label : (r : Role) (s : List ℕ) → Used ts k r s → is_label r ≡ true → New k r s → label_limit ≤ labels w (seen ts k) → Rule k 8
    -- one operator of a whole expression too many
    many_operators : here is_operator (rest ts k) ≡ true → operator_limit ≤ operators (past ts k) → Rule k 9
    -- "(" too deep in parentheses, IF too deep in IFs
    deep_parenthesis : here (is (sign Open)) (rest ts k) ≡ true → depth_limit ≤ depth (past ts k) → Rule k 10
    deep_if : here (is (keyword If)) (rest ts k) ≡ true → depth_limit ≤ length (parts (past ts k)) → Rule k 10
    -- one label after OF too many
    long_list : (s : List ℕ) → Used ts k listed s → list_limit ≤ names (past ts k) → Rule k 11

  -- no refusal stands at any token
  abbrev pub Clear : Type 0
  Clear = (k n : ℕ) → Rule k n → ⊥

abbrev pub tokens_of : List Placed → List Token
tokens_of ts = map (λ (p : Placed). p.token) ts

-- the place of the first of the tokens; in a text of n bytes that of the end is n
abbrev pub place : ℕ → List Placed → ℕ
place n [] = n
place n (p ∷ ps) = p.offset

-- a refusal's number and place
pub record Refused : Type 0 where
  pub number : ℕ
  pub place : ℕ

-- Of a text of n bytes with the tokens ts; `size` counts the words of a program's code.
module _ (w : Words) (size : Program → ℕ) (n : ℕ) (ts : List Placed) where
  -- The refusal that counts. 2 comes before all others. Of 3 to 11 it is the one at the first token at which any
  -- stands, and there the lowest; then 12, at the first such mention; then 13.
  pub data Refusal : Refused → Type 0 where
    long_text : text_limit < n → Refusal (record { number = 2; place = 0 })
    first_rule : (k m : ℕ) → n ≤ text_limit → Rule w (tokens_of ts) k m →
        ((j l : ℕ) → j < k → Rule w (tokens_of ts) j l → ⊥) → ((l : ℕ) → Rule w (tokens_of ts) k l → m ≤ l) →
        Refusal (record { number = m; place = place n (drop k ts) })
    unmet_label : (k : ℕ) → n ≤ text_limit → Clear w (tokens_of ts) → Unmet (tokens_of ts) k →
        ((j : ℕ) → j < k → Unmet (tokens_of ts) j → ⊥) →
        Refusal (record { number = 12; place = place n (drop k ts) })
    long_code : (p : Program) → n ≤ text_limit → Clear w (tokens_of ts) → Met (tokens_of ts) →
        Parses (tokens_of ts) p → code_limit < size p → Refusal (record { number = 13; place = 0 })

  -- a text without refusal
  pub record Accepted (p : Program) : Type 0 where
    pub short : n ≤ text_limit
    pub clear : Clear w (tokens_of ts)
    pub met : Met (tokens_of ts)
    pub parses : Parses (tokens_of ts) p
    pub fits : size p ≤ code_limit
