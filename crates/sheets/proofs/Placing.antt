-- What a load of an accepted text leaves.
use Rattle.std.proofs.Common.{◌≡◌, ℕ, ◌+◌, ◌*◌, ◌<◌, ◌≤◌, Bool, true, cond, ltb, ◌⊎◌, List, [], ◌++◌, length, get_or, ℤ, pos, Some, None, Option, sym, refl, ap, ◌∙◌, subst, inl, inr, append-nil, arith, length-append}
use lib.ListN.{get_or-append}
use Rattle.std.proofs.lemmas.Bool.{cases_lt, lt-ltb}
use Rattle.std.proofs.lemmas.List.{get_or_past}
use Rattle.token.specs.Tokens.{Token}
use Rattle.token.specs.Lexis.{tokens}
use Rattle.trees.specs.Trees.{Name, Program, commands}
use Rattle.arithmetic.specs.Words.{Words}
use Rattle.limits.specs.Uses.{variable_use, number_use, made, In, uses}
use Rattle.limits.specs.Rules.{Clear}
use Rattle.limits.specs.Symbols.{variable_cell, literal_cell, cells_used}
use Rattle.limits.proofs.Cells as cell
use Rattle.limits.proofs.Fitting.{fits}
use Rattle.limits.proofs.Naming.{in_tokens}
use Rattle.grammar.specs.Grammar.{Parses}
use Rattle.runs.specs.declared.instruction.Instruction.{Instruction}
use Rattle.runs.specs.declared.instruction.Instruction.TheVariants.{Bru, Brz, Brn, Brp, Ada, Sub, Mul, Div, Lda, Sta, Read, Convert, Newline, Stop}
use Rattle.runs.specs.Machine.{opcode, operand, decode, allowed, fetch}
use Rattle.runs.specs.Code.{Layout, program_size, address_of, code_of}
use Rattle.runs.specs.Placed.{Variable, Literal, Placed, Ready}
use Rattle.runs.proofs.Sound.{words_decode_lem}
use Rattle.runs.proofs.Stands.{code_is_sound_lem}
use Rattle.sheets.specs.Images.{plain_tokens, layout, first_cells}
use Rattle.sheets.specs.Laws.{AcceptedIsPlaced}
use Rattle.sheets.proofs.Members.{same_decimal, all_variables, all_literals, few_operators, few_labels}
use Rattle.sheets.proofs.Values as value

-- words of 16 bits

low_opcode : (i : Instruction) → opcode i ≤ 10
low_opcode i = grind arith

short_word : (i : Instruction) (n : ℕ) → decode n ≡ Some i → n < 65536
short_word i n e =
    let p = (words_decode_lem i n).0 e in
    let a = low_opcode i in
    let b : opcode i * 4096 + operand i ≡ n = p.0 in
    let c : operand i < 4096 = p.1 in
    omega (arith, a, b, c)

was_asked : (size used : ℕ) (o : Option Instruction) (i : Instruction) → allowed size used o ≡ Some i → (j : Instruction) × (o ≡ Some j)
was_asked size used None i e = grind arith
was_asked size used (Some j) i e = (j, refl)

fetched_word : (ws : List ℕ) (used a : ℕ) (i : Instruction) → a < length ws → fetch ws used a ≡ Some i → get_or ws a 0 < 65536
fetched_word ws used a i l e =
    let t : ltb a (length ws) ≡ true = lt-ltb a (length ws) l in
    let f : allowed (length ws) used (decode (get_or ws a 0)) ≡ Some i =
    sym (ap (λ (b : Bool). cond b (allowed (length ws) used (decode (get_or ws a 0))) None) t) ∙ e in
    let j = was_asked (length ws) used (decode (get_or ws a 0)) i f in
    short_word j.0 (get_or ws a 0) j.1

short_words : (k : Layout) (p : Program) → Placed k p → (a : ℕ) → get_or (code_of k p) a 0 < 65536
short_words k p pl a = go (cases_lt a (length (code_of k p)))
  where
    go : (a < length (code_of k p)) ⊎ (length (code_of k p) ≤ a) → get_or (code_of k p) a 0 < 65536
    go (inl l) = let f = code_is_sound_lem.words k p pl a l in fetched_word (code_of k p) k.used a f.0 l f.1
    go (inr g) = let e = get_or_past (code_of k p) a 0 g in omega (arith, e)

module _ (w : Words) (ts : List Token) (p : Program) (clear : Clear w ts) (parses : Parses ts p) where
  variable_there : (x : Name) → Variable p x → In (made variable_use x) (uses ts)
  variable_there x v = in_tokens ts p parses (made variable_use x) (all_variables (commands p) x v)

  literal_there : (ds : List ℕ) → Literal p ds → In (made number_use ds) (uses ts)
  literal_there ds l = in_tokens ts p parses (made number_use ds) (all_literals (commands p) ds l)

  placed : program_size p ≤ 4096 → Placed (layout w ts) p
  placed size = record {
    fixed = omega arith;
    few = cell.few_cells w ts clear;
    variable_past = λ x v. (cell.variable_in w ts x (variable_there x v)).0;
    variable_used = λ x v. (cell.variable_in w ts x (variable_there x v)).1;
    variable_own = λ x y v u e. cell.variables_apart w ts x y (variable_there x v) (variable_there y u) e;
    literal_past = λ ds l. (cell.literal_in w ts ds (literal_there ds l)).0;
    literal_used = λ ds l. (cell.literal_in w ts ds (literal_there ds l)).1;
    literal_own = λ ds x l v e. cell.numbers_apart w ts x ds (variable_there x v) (literal_there ds l) (sym e);
    few_operators = few_operators (commands p) (fits w ts p clear parses);
    few_labels = few_labels (commands p) (fits w ts p clear parses);
    short = subst (λ (n : ℕ). n ≤ 4096) (sym (code_is_sound_lem.size (layout w ts) p)) size;
  }

  -- a cell in use is the same whatever follows
  before : (others : List ℤ) (c : ℕ) → c < cells_used w ts → get_or (first_cells w ts ++ others) c (pos 0) ≡ get_or (first_cells w ts) c (pos 0)
  before others c h = get_or-append (first_cells w ts) others (pos 0) c (subst (λ (n : ℕ). c < n) (sym (value.length_cells w ts)) h)

  ready_before : (others : List ℤ) → Ready w (layout w ts) p (first_cells w ts ++ others)
  ready_before others = record {
    all_there =
        let a = length-append (first_cells w ts) others in
        let b = value.length_cells w ts in
        omega (arith, a, b);
    one_held = refl;
    variable_zero = λ x v. before others (variable_cell w ts x) (cell.variable_in w ts x (variable_there x v)).1 ∙ value.variable_held w ts x (variable_there x v);
    literal_held = λ ds l.
        before others (literal_cell w ts ds) (cell.literal_in w ts ds (literal_there ds l)).1 ∙ value.literal_held w ts ds (literal_there ds l) ∙
        ap (λ (n : ℕ). w.fit (pos n)) (sym (same_decimal ds));
  }

  ready : Ready w (layout w ts) p (first_cells w ts)
  ready = subst (Ready w (layout w ts) p) (append-nil (first_cells w ts)) (ready_before [])

pub accepted_is_placed_lem : AcceptedIsPlaced
accepted_is_placed_lem w text p a =
    let ts : List Token = plain_tokens text in
    let q : Placed (layout w ts) p = placed w ts p a.clear a.parses a.fits in
    let s : length (code_of (layout w ts) p) ≡ program_size p = code_is_sound_lem.size (layout w ts) p in
    let c : length (first_cells w ts) ≡ cells_used w ts = value.length_cells w ts in
    record {
      placed = q;
      ready = ready w ts p a.clear a.parses;
      ready_before = ready_before w ts p a.clear a.parses;
      cells_used = c;
      some_cells = omega (arith, c);
      few_cells = subst (λ (n : ℕ). n ≤ 512) (sym c) q.few;
      few_symbols = cell.few_symbols w (address_of p) (tokens text) a.clear;
      code_size = s;
      some_code = omega (arith, s);
      few_words = q.short;
      short_words = short_words (layout w ts) p q;
    }
