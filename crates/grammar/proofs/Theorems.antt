-- The theorems on the grammar, from those on the machine.
use Rattle.std.proofs.Common.{◌≡◌, T, List, [], ◌∷◌, ◌++◌, sym, refl, ap, ◌∙◌, subst, append-nil, arith}
use mathlib.Core.Option.{Option, none, some, map, some-injective, none-ne-some}
use Rattle.token.specs.Tokens.{Token}
use Rattle.trees.specs.Trees.{Program}
use Rattle.grammar.specs.Grammar.{Parses, IsProgram, Begins}
use Rattle.grammar.specs.Concrete.{Statements, program_t, program_tree}
use Rattle.grammar.specs.Machine.{Config, done, Rows, choose, go_on, run, begun, built, parse}
use Rattle.grammar.specs.Recogniser.{State, stack_rows, stack_step, outset, reach, accepting}
use Rattle.grammar.proofs.Sound.{run_reads}
use Rattle.grammar.proofs.Complete.{program_run}
use Rattle.grammar.proofs.Fill.{fill}
use Rattle.grammar.proofs.Erase.{erase, reach_is, accepting_is}
use Rattle.grammar.proofs.Yields.{parsed_to, parsed_from}

-- a machine that has built a tree is done with it
built_done : (c : Config) (p : Program) → built (some c) ≡ some p → (cs : Statements) × (c ≡ done cs) × (program_tree cs ≡ p)
built_done c p h = grind arith

done_sound : (ts : List Token) (cs : Statements) → run begun ts ≡ some (done cs) → Parses ts (program_tree cs)
done_sound ts cs e =
    let q : program_t cs ≡ ts = run_reads begun ts (done cs) e [] ∙ append-nil ts in
    subst (λ (us : List Token). Parses us (program_tree cs)) q (parsed_from cs)

pub parse_sound : (ts : List Token) (p : Program) → parse ts ≡ some p → Parses ts p
parse_sound ts p h = go (run begun ts) refl h
  where
    go : (s : Option Config) → run begun ts ≡ s → built s ≡ some p → Parses ts p
    go none e i = absurd (none-ne-some p i)
    go (some c) e i =
        let d = built_done c p i in
        subst (Parses ts) d.2 (done_sound ts d.0 (e ∙ ap {B = Option Config} some d.1))

pub done_complete : (ts : List Token) (p : Program) → Parses ts p → (cs : Statements) × (run begun ts ≡ some (done cs)) × (program_tree cs ≡ p)
done_complete ts p d =
    let x = parsed_to d in
    (x.0, ap (run begun) (sym x.2) ∙ program_run x.0, x.1)

pub parse_complete : (ts : List Token) (p : Program) → Parses ts p → parse ts ≡ some p
parse_complete ts p d =
    let x = done_complete ts p d in
    ap built x.1 ∙ ap {B = Option Program} some x.2

pub one_reading : (ts : List Token) (p q : Program) → Parses ts p → Parses ts q → p ≡ q
one_reading ts p q d g = some-injective p q (sym (parse_complete ts p d) ∙ parse_complete ts q g)

pub accepts_sound : (ts : List Token) → T (accepting (reach ts)) → IsProgram ts
accepts_sound ts h = go (run begun ts) refl (subst (λ (x : Option (List State)). T (accepting x)) (reach_is ts) h)
  where
    go : (s : Option Config) → run begun ts ≡ s → T (accepting (map erase s)) → IsProgram ts
    go none e i = absurd i
    go (some c) e i =
        let d = accepting_is c i in
        (program_tree d.0, done_sound ts d.0 (e ∙ ap {B = Option Config} some d.1))

pub accepts_complete : (ts : List Token) → IsProgram ts → T (accepting (reach ts))
accepts_complete ts p = let x = done_complete ts p.0 p.1 in rw (reach_is ts, x.1) tt

pub run_append : {C : Type 0} (R : C → Rows C) (s : Option C) (ts us : List Token) → go_on R s (ts ++ us) ≡ go_on R (go_on R s ts) us
run_append R none ts us = refl
run_append R (some c) [] us = refl
run_append R (some c) (t ∷ ts) us = run_append R (choose (R c) t) ts us

pub goes_on : (ts : List Token) (k : List State) → reach ts ≡ some k → Begins ts
goes_on ts k e = go (run begun ts) refl (sym (reach_is ts) ∙ e)
  where
    go : (s : Option Config) → run begun ts ≡ s → map erase s ≡ some k → Begins ts
    go none q h = absurd (none-ne-some k h)
    go (some c) q h =
        let f = fill c in
        let e : program_t f.1 ≡ ts ++ f.0 = f.2 ∙ run_reads begun ts c q f.0 in
        (f.0, (program_tree f.1, subst (λ (us : List Token). Parses us (program_tree f.1)) e (parsed_from f.1)))

pub stays : (ts : List Token) → reach ts ≡ none → Begins ts → ⊥
stays ts e b =
    let a : reach (ts ++ b.0) ≡ none = run_append stack_rows (some outset) ts b.0 ∙ ap (λ x. go_on stack_rows x b.0) e in
    rw a at (accepts_complete (ts ++ b.0) b.1)

one_step : (s : Option (List State)) → go_on stack_rows s [] ≡ s
one_step none = refl
one_step (some x) = refl

-- one token more
pub reach_more : (ts : List Token) (k : List State) (t : Token) → reach ts ≡ some k → reach (ts ++ t ∷ []) ≡ stack_step k t
reach_more ts k t e =
    run_append stack_rows (some outset) ts (t ∷ []) ∙ ap (λ x. go_on stack_rows x (t ∷ [])) e ∙ one_step (stack_step k t)

pub refuses : (ts : List Token) (k : List State) (t : Token) → reach ts ≡ some k → stack_step k t ≡ none → Begins (ts ++ t ∷ []) → ⊥
refuses ts k t e h b = stays (ts ++ t ∷ []) (reach_more ts k t e ∙ h) b
