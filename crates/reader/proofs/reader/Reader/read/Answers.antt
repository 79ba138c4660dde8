use Rattle.std.proofs.Common.{rules, ◌≡◌, ℕ, List, ◌∷◌, Bor, Ok, Err, Result, sym, ap, ◌∙◌, subst}
use Rattle.fault.specs.declared.Fault.{Fault}
use Rattle.token.specs.Views.{meant}
use Rattle.reader.specs.Taking.{WholeAt}
use Rattle.reader.proofs.Whole.{begun, fewer, next, ended, found_there, table_on}
use Rattle.reader.proofs.reader.Reader.read.Goals as goal

pub tokens-init : goal.tokens-init
tokens-init g c =
    let a = c.args in
    let w = g.N.Arithmetic.words in
    let t = ap (λ (z : Bor (List ℕ)). z.now) c.new-lexer.ensures.text in
    let e = c.next-lexeme.ensures in
    record {
      text_is = ap (λ (z : Bor (List ℕ)). z.now) e.text ∙ t;
      found = found_there c.new-lexer.result c.next-lexeme.new.self c.next-lexeme.result e a.text.now t;
      reader_kept = search rules;
      table_kept = search rules;
      taken = λ short h. begun w a.text.now a.self.now a.table.now c.new-lexer.result c.next-lexeme.new.self c.next-lexeme.result c.new-lexer.ensures.tokens e h;
    }

pub returns-in_err-take-clause-reader_kept : goal.returns-in_err-take-clause-reader_kept
returns-in_err-take-clause-reader_kept g c = let k = c.tokens.invariant.reader_kept in search rules

pub returns-in_err-take-clause-table_kept : goal.returns-in_err-take-clause-table_kept
returns-in_err-take-clause-table_kept g c = table_on _ _ _ c.tokens.invariant.table_kept c.in_err-take.ensures.table_kept

pub returns-in_err-take-clause-taken : goal.returns-in_err-take-clause-taken
returns-in_err-take-clause-taken g c = λ short h.
    let a = c.args in
    let w = g.N.Arithmetic.words in
    let l = c.tokens in
    let y = l.invariant.taken short h in
    let f : Result (Unit {0}) Fault = Err c.in_err-take.field-0.0 in
    let e : c.from_residual.result ≡ f = search rules in
    let x =
    next w a.text.now l.lexer c.next-next.new.self c.next-next.result c.next-next.ensures l.lexeme.offset l.self c.take.new.self l.table c.take.new.table y.0 short c.is_of.result c.is_of.ensures
    (meant l.lexeme.token) (search rules) l.invariant.found y.1 f c.in_err-take.ensures.taken in
    subst (WholeAt w a.text.now c.take.new.self c.take.new.table) (sym e) x.1

pub tokens-smaller : goal.tokens-smaller
tokens-smaller g c = fewer g.N.Arithmetic.words c.args.text.now c.tokens.lexer c.next-next.new.self c.next-next.result c.next-next.ensures c.tokens.lexeme.offset (meant c.tokens.lexeme.token) (search rules)

pub tokens-preserved : goal.tokens-preserved
tokens-preserved g c =
    let a = c.args in
    let w = g.N.Arithmetic.words in
    let l = c.tokens in
    let n = c.next-next.ensures in
    let k = l.invariant.reader_kept in
    record {
      text_is = ap (λ (z : Bor (List ℕ)). z.now) n.text ∙ l.invariant.text_is;
      found = found_there l.lexer c.next-next.new.self c.next-next.result n a.text.now l.invariant.text_is;
      reader_kept = search rules;
      table_kept = table_on a.table.now l.table c.take.new.table l.invariant.table_kept c.in_ok-take.ensures.table_kept;
      taken = λ short h.
          let y = l.invariant.taken short h in
          let x =
          next w a.text.now l.lexer c.next-next.new.self c.next-next.result n l.lexeme.offset l.self c.take.new.self l.table c.take.new.table y.0 short c.is_of.result c.is_of.ensures
          (meant l.lexeme.token) (search rules) l.invariant.found y.1 (Ok c.in_ok-take.field-0) c.in_ok-take.ensures.taken in
          (x.0 ∷ y.0, x.1);
    }

pub returns-clause-reader_kept : goal.returns-clause-reader_kept
returns-clause-reader_kept g c = c.tokens.invariant.reader_kept

pub returns-clause-table_kept : goal.returns-clause-table_kept
returns-clause-table_kept g c = c.tokens.invariant.table_kept

pub returns-clause-taken : goal.returns-clause-taken
returns-clause-taken g c = λ short h.
    let y = c.tokens.invariant.taken short h in
    ended g.N.Arithmetic.words c.args.text.now c.tokens.lexeme.offset (meant c.tokens.lexeme.token) _ y.0 c.tokens.self c.tokens.table (search rules) c.tokens.invariant.found y.1 c.finish.result c.finish.ensures
