-- A reader before the first token of a text.
use Rattle.std.proofs.Common.{◌≡◌, ℕ, suc, ◌≤◌, Bool, true, false, if◌then◌else◌, List, [], ◌∷◌, length, take, drop, replicate, sym, refl, ap, ◌∙◌, subst, arith}
use Rattle.std.proofs.lemmas.List.{length-take-le, length-reverse, length-replicate}
use Rattle.stack.specs.declared.stack.Stack.{Stack}
use Rattle.stack.specs.Entries.{entries, Keeps}
use Rattle.token.specs.Tokens.{Token}
use Rattle.token.specs.Lexis.{tokens}
use Rattle.arithmetic.specs.Words.{Words}
use Rattle.limits.specs.Uses.{Use}
use Rattle.limits.specs.Rules.{code_limit, tokens_of}
use Rattle.emission.specs.declared.state.State.TheVariants.{Start, Next, ToName}
use Rattle.emission.specs.Draft.{blank}
use Rattle.emission.specs.Table.{Translator, outset}
use Rattle.symbols.specs.declared.table.Table.{Table}
use Rattle.symbols.specs.Table.{Holds}
use Rattle.assembly.specs.Plans.{Plan}
use Rattle.assembly.specs.Drawn.{Drawn}
use Rattle.reading.specs.References.{neither}
use Rattle.reading.specs.Steps.{pushed_all}
use Rattle.reading.specs.Counting.{counts, Counted}
use Rattle.reading.specs.Reads as reading
use Rattle.reading.specs.Reads.{room, cells_of, symbol_of, KeptNext, KnownNext}
use Rattle.reader.specs.declared.reader.Reader.{Reader}
use Rattle.reader.specs.Views.{plan, nothing_made, rooms, returns, return_room}
use Rattle.reader.specs.Taking.{After}

module _ {T : Type 0} where
  in_use : (s : Stack T) → length (entries s) ≡ s.len
  in_use s = length-reverse (take s.len s.items.now) ∙ length-take-le s.len s.items.now s.ok

  grown : (c : Bool) (x : T) (k : List T) → length (if c then x ∷ k else k) ≤ suc (length k)
  grown true x k = omega arith
  grown false x k = omega arith

  pushed_once : (a b : Stack T) (c : Bool) (x : T) → entries b ≡ (if c then x ∷ entries a else entries a) → b.len ≤ suc a.len
  pushed_once a b c x e =
      let i : length (entries b) ≤ suc (length (entries a)) = subst (λ (z : List T). length z ≤ suc (length (entries a))) (sym e) (grown c x (entries a)) in
      omega (arith, in_use a, in_use b)

  -- two entries on an empty stack change nothing beyond the two
  pub beyond_two : (a b d : Stack T) (m n : Bool) (x y : T) → a.len ≡ 0 → Keeps a b → Keeps b d →
      entries b ≡ (if m then x ∷ entries a else entries a) → entries d ≡ (if n then y ∷ entries b else entries b) → drop 2 d.items.now ≡ drop 2 a.items.now
  beyond_two a b d m n x y z k q e f =
      let i : b.len ≤ suc a.len = pushed_once a b m x e in
      let j : d.len ≤ suc b.len = pushed_once b d n y f in
      q.beyond 2 (omega (arith, z)) (omega (arith, z)) ∙ k.beyond 2 (omega (arith, z)) (omega (arith, z))

start_is_no_name : Start ≡ ToName → ⊥
start_is_no_name e = cc

module _ (w : Words) (text : List ℕ) (r : Reader) (t : Table) where
  abbrev rest : List Token
  rest = tokens_of (tokens text)

  abbrev first : Translator
  first = outset (cells_of w text)

  nothing_kept : (ts : List Token) → KeptNext w text ts first.stack blank (plan r)
  nothing_kept [] = tt
  nothing_kept (z ∷ ts) = record { as_variable = λ e. absurd (start_is_no_name e); as_label = λ e. absurd (start_is_no_name e) }

  nothing_known : (ts : List Token) (us : List Use) → KnownNext w text ts first.stack [] us
  nothing_known [] us = tt
  nothing_known (z ∷ ts) us = λ e. absurd (start_is_no_name e)

  nothing_written : (p : Plan) → p ≡ nothing_made (replicate code_limit 0) → Drawn (symbol_of w text) blank p
  nothing_written p e =
      subst (Drawn (symbol_of w text) blank) (sym e)
      (record {
        words = record { size = length-replicate {A = ℕ} code_limit 0; count = refl; code = λ l. refl };
        marks = refl;
        cells = refl;
        temporaries = refl;
        target = refl;
        relation = refl;
      })

  -- a reader that is just made, over a code of zeros, and a table with no uses hold what no token makes
  pub begins : (code : List ℕ) → plan r ≡ nothing_made code → returns r ≡ pushed_all (return_room r) 0 (Start ∷ Next ∷ []) [] → r.counts ≡ counts 0 0 0 →
      code ≡ replicate code_limit 0 → rooms r ≡ room → return_room r ≡ reading.return_room → t.text.now ≡ text → Holds w t [] → After w text [] (tokens text) r t
  begins code made returns_are counts_are zeros rooms_are return_room_is text_is holds =
      record {
        rooms_are = rooms_are;
        return_room_is = return_room_is;
        reads =
            record {
              whole = refl;
              translator = first;
              reached = refl;
              drawn = nothing_written (plan r) (made ∙ ap nothing_made zeros);
              returns = returns_are ∙ ap (λ n. pushed_all n 0 (Start ∷ Next ∷ []) []) return_room_is;
              kept = nothing_kept rest;
              known_next = nothing_known rest _;
              counted =
                  subst (Counted []) (sym counts_are)
                  (record { operators_are = refl; depth_is = refl; names_are = refl; few_operators = omega arith; few_open = omega arith; few_ifs = omega arith });
              text_is = text_is;
              holds = holds;
              matches = neither;
              labelled = tt;
              passes = refl;
            };
      }
