-- A text that was read: whether a label is missing in it, or its code is too long.
use Rattle.std.proofs.Common.{◌≡◌, ℕ, ◌<◌, ◌≤◌, min, cond, List, [], ◌∷◌, map, reverse, length, Option, Some, None, sym, refl, ap, ◌∙◌, arith, ltb}
use mathlib.Core.Option as maybe
use mathlib.Mathlib.Data.List.Basic.{map-reverse_aux}
use Rattle.std.proofs.lemmas.Bool.{lt-ltb, le-ltb}
use Rattle.std.proofs.lemmas.List.{reverse-reverse}
use Rattle.token.specs.Tokens.{Placed}
use Rattle.token.specs.Lexis.{tokens}
use Rattle.trees.specs.Trees.{Program}
use Rattle.arithmetic.specs.Words.{Words}
use Rattle.runs.specs.Code.{program_size}
use Rattle.grammar.specs.Machine.{parse}
use Rattle.grammar.proofs.Theorems.{parse_complete}
use Rattle.limits.specs.Uses.{Use, uses}
use Rattle.limits.specs.Rules.{text_limit, code_limit, tokens_of, Refused}
use Rattle.limits.specs.Refusals.{or_else, first_unmet, over_code}
use Rattle.limits.proofs.Passing.{one_pass}
use Rattle.sheets.specs.Images.{refusal_of}
use Rattle.emission.specs.Draft.{Draft}
use Rattle.emission.specs.Table.{Return, translator, translated}
use Rattle.emission.proofs.Programs.{sound}
use Rattle.symbols.specs.declared.table.Table.{Table}
use Rattle.symbols.specs.Mentions.{Mention, uses_of, earliest_unmet}
use Rattle.symbols.specs.Table.{refused_12, UnmetRead}
use Rattle.symbols.proofs.Whole.{earliest}
use Rattle.reading.specs.Steps.{return_code}
use Rattle.reading.specs.Reads.{cells_of, label_at, mentions, refused_first}
use Rattle.reading.proofs.Resolving.{all_uses}
use Rattle.reader.specs.declared.reader.Reader.{Reader}
use Rattle.reader.specs.Views.{plan, returns}
use Rattle.reader.specs.Taking.{After}

module _ (w : Words) (text : List ℕ) (r : Reader) (t : Table) (short : length text ≤ text_limit) (h : After w text (reverse (tokens text)) [] r t) where
  abbrev ts : List Placed
  ts = tokens text

  abbrev seen : List Mention
  seen = mentions w text (reverse ts) []

  unmet_is : earliest_unmet (uses_of seen) seen ≡ first_unmet (uses (tokens_of ts)) [] ts
  unmet_is = ap (λ (us : List Use). earliest_unmet us seen) (all_uses (label_at w text) ts) ∙ earliest (label_at w text) (uses (tokens_of ts)) ts

  -- without a state the text is a program, and the words are those of its code
  record Read : Type 0 where
    program : Program
    parses : parse (tokens_of ts) ≡ maybe.some program
    words : (plan r).made.count ≡ min (program_size program) 65535

  tokens_are : reverse (tokens_of (reverse ts)) ≡ tokens_of ts
  tokens_are = ap reverse (map-reverse_aux (λ (p : Placed). p.token) ts []) ∙ reverse-reverse (tokens_of ts)

  read : returns r ≡ [] → Read
  read e = go h.reads.translator.stack refl (sym e ∙ h.reads.returns)
    where
      go : (z : List Return) → h.reads.translator.stack ≡ z → [] ≡ map return_code z → Read
      go [] q f =
          let d : Draft = h.reads.translator.made in
          let x = sound (cells_of w text) (tokens_of ts) d (ap (translated (cells_of w text)) (sym tokens_are) ∙ h.reads.reached ∙ ap (λ (s : List Return). maybe.some (translator s d)) q) in
          record {
            program = x.0;
            parses = parse_complete (tokens_of ts) x.0 x.1;
            words = h.reads.drawn.words.count ∙ ap (λ (n : ℕ). min n 65535) x.2.same_size;
          }
      go (s ∷ z) q f = cc

  module _ (clear : refused_first w text ≡ maybe.none) where
    -- what is left of the refusals
    left : refusal_of w text ≡ or_else (first_unmet (uses (tokens_of ts)) [] ts) (over_code program_size (parse (tokens_of ts)))
    left =
        (λ i. cond (le-ltb text_limit (length text) short i) (maybe.some (record { number = 2; place = 0 }))
        (or_else ((sym (one_pass w (length text) ts) ∙ clear) i) (or_else (first_unmet (uses (tokens_of ts)) [] ts) (over_code program_size (parse (tokens_of ts))))))

    by_table : (x : Option ℕ) → UnmetRead t x → refusal_of w text ≡ or_else (refused_12 x) (over_code program_size (parse (tokens_of ts)))
    by_table x u =
        left ∙ ap (λ (o : maybe.Option Refused). or_else o (over_code program_size (parse (tokens_of ts)))) (sym (u w seen h.reads.holds ∙ unmet_is))

    -- a label is missing
    pub missing : (p : ℕ) → UnmetRead t (Some p) → refusal_of w text ≡ maybe.some (record { number = 12; place = p })
    missing p u = by_table (Some p) u

    -- none is, and then the count of words decides
    module _ (u : UnmetRead t None) (e : returns r ≡ []) (count : ℕ) (n : count ≡ (plan r).made.count) where
      by_count : refusal_of w text ≡ cond (ltb code_limit (program_size (read e).program)) (maybe.some (record { number = 13; place = 0 })) maybe.none
      by_count = by_table None u ∙ ap (over_code program_size) (read e).parses

      pub long : code_limit < count → refusal_of w text ≡ maybe.some (record { number = 13; place = 0 })
      long l =
          let q = (read e).words in
          by_count ∙ ap (λ b. cond b (maybe.some (record { number = 13; place = 0 })) maybe.none) (lt-ltb code_limit (program_size (read e).program) (omega arith))

      pub none_left : count ≤ code_limit → refusal_of w text ≡ maybe.none
      none_left l =
          let q = (read e).words in
          by_count ∙ ap (λ b. cond b (maybe.some (record { number = 13; place = 0 })) maybe.none) (le-ltb code_limit (program_size (read e).program) (omega arith))
