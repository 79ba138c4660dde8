use Rattle.std.proofs.Common.{[], sym, ap, ◌∙◌}
use Rattle.token.specs.Views.{meant}
use Rattle.reader.specs.Tokens.{form_refusal_by}
use Rattle.reader.proofs.counting.check_form.Goals as goal

pub returns-in-Name : goal.returns-in-Name
returns-in-Name c = c.check_name.ensures c.args.ifs [] ∙ ap (λ x. form_refusal_by c.args.counts c.args.ifs c.args.listed (meant x)) (sym c.in-Name.is)

pub returns-in-Keyword : goal.returns-in-Keyword
returns-in-Keyword c = c.check_keyword.ensures c.args.counts ∙ ap (λ x. form_refusal_by c.args.counts c.args.ifs c.args.listed (meant x)) (sym c.in-Keyword.is)

pub returns-in-Sign : goal.returns-in-Sign
returns-in-Sign c = c.check_sign.ensures c.args.ifs ∙ ap (λ x. form_refusal_by c.args.counts c.args.ifs c.args.listed (meant x)) (sym c.in-Sign.is)
