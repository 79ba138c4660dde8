-- Each symbol of an accepted text points to bytes of the text, and leads to what they name.
use Rattle.std.proofs.Common.{◌≡◌, ℕ, zero, suc, ◌+◌, ◌<◌, ◌≤◌, cond, List, [], ◌∷◌, ◌++◌, length, take, drop, sym, refl, ap, ◌∙◌, subst, append_assoc, arith, length-append}
use lib.Seq.{take-append_seam, drop-append_seam}
use Rattle.std.proofs.lemmas.List.{drop-map}
use mathlib.Core.Option.{some, some-injective, none-ne-some}
use Rattle.token.specs.Tokens.{Token, name, number, keyword, sign, other, Placed}
use Rattle.token.specs.Lexis.{tokens}
use Rattle.token.specs.Reading.{spelled, Reads, the_end, a_blank, a_comment, a_token}
use Rattle.token.proofs.Readings.{tokens_exact}
use Rattle.trees.specs.Trees.{Name, Program}
use Rattle.arithmetic.specs.Words.{Words}
use Rattle.limits.specs.Uses.{Role, definition, target, listed, variable_use, number_use, Use, made, In, at_head, in_tail, use_of, use_at, uses, is_label, key_by}
use Rattle.limits.specs.Rules.{past, Used, tokens_of, place}
use Rattle.limits.specs.Symbols.{kind_of, Symbol, cell, FirstUse}
use Rattle.limits.proofs.Cells as cells
use Rattle.limits.proofs.Lists.{earlier_seen}
use Rattle.limits.proofs.Search.{used_within, all_seen}
use Rattle.limits.proofs.Table as table
use Rattle.runs.specs.Code.{address_of}
use Rattle.runs.proofs.Stands.{code_is_sound_lem}
use Rattle.sheets.specs.Images.{plain_tokens, layout, image_of}
use Rattle.sheets.specs.Laws.{Leads, SymbolStands, SymbolsStand}
use Rattle.sheets.proofs.Values as value

-- bytes stand in a text at an offset
record Spelled (text : List ℕ) (at : ℕ) (bytes : List ℕ) : Type 0 where
  within : at + length bytes ≤ length text
  same : take (length bytes) (drop at text) ≡ bytes

spelled_here : (front bytes after : List ℕ) (at : ℕ) → length front ≡ at → Spelled (front ++ (bytes ++ after)) at bytes
spelled_here front bytes after at e = record {
  within =
      let a = length-append front (bytes ++ after) in
      let b = length-append bytes after in
      omega (arith, a, b, e);
  same = ap (λ (n : ℕ). take (length bytes) (drop n (front ++ (bytes ++ after)))) (sym e) ∙ ap (take (length bytes)) (drop-append_seam front (bytes ++ after)) ∙ take-append_seam bytes after;
}

further : (front bytes : List ℕ) (at : ℕ) → length front ≡ at → length (front ++ bytes) ≡ at + length bytes
further front bytes at e = length-append front bytes ∙ ap (λ (n : ℕ). n + length bytes) e

-- each token stands where it is placed
all_spelled : {at : ℕ} {bs : List ℕ} {ts : List Placed} → Reads at bs ts → (front : List ℕ) → length front ≡ at → (q : Placed) → In q ts → Spelled (front ++ bs) q.offset (spelled q.token)
all_spelled (the_end a) front e q i = elim i [ ]
all_spelled (a_blank a b more us h r) front e q i =
    subst (λ (text : List ℕ). Spelled text q.offset (spelled q.token)) (append_assoc front (b ∷ []) more)
    (all_spelled r (front ++ (b ∷ [])) (further front (b ∷ []) a e) q i)
all_spelled (a_comment a inner more us h g r) front e q i =
    let l : length (front ++ (37 ∷ inner)) ≡ a + 1 + length inner = further front (37 ∷ inner) a e ∙ omega arith in
    subst (λ (text : List ℕ). Spelled text q.offset (spelled q.token)) (append_assoc front (37 ∷ inner) more)
    (all_spelled r (front ++ (37 ∷ inner)) l q i)
all_spelled (a_token a t more us proper whole r) front e q i = go i refl (all_spelled r (front ++ spelled t) (further front (spelled t) a e))
  where
    go : {x : Placed} → In q (x ∷ us) → x ≡ record { offset = a; token = t } → ((p : Placed) → In p us → Spelled ((front ++ spelled t) ++ more) p.offset (spelled p.token)) →
        Spelled (front ++ (spelled t ++ more)) q.offset (spelled q.token)
    go at_head f ih = subst (λ (z : Placed). Spelled (front ++ (spelled t ++ more)) z.offset (spelled z.token)) (sym f) (spelled_here front (spelled t) more a e)
    go (in_tail j) f ih = subst (λ (text : List ℕ). Spelled text q.offset (spelled q.token)) (append_assoc front (spelled t) more) (ih q j)

placed_spelled : (text : List ℕ) (q : Placed) → In q (tokens text) → Spelled text q.offset (spelled q.token)
placed_spelled text q i = all_spelled ((tokens_exact text (tokens text)).1 refl) [] refl q i

-- a use has its token's bytes
use_spelled : (before : List Token) (t : Token) (after : List Token) (r : Role) (s : List ℕ) → use_of before t after ≡ some (made r s) → spelled t ≡ s
use_spelled before (name n) after r s e = ap (λ (u : Use). u.spelling) (some-injective _ (made r s) e)
use_spelled before (number n) after r s e = ap (λ (u : Use). u.spelling) (some-injective _ (made r s) e)
use_spelled before (keyword k) after r s e = absurd (none-ne-some (made r s) e)
use_spelled before (sign g) after r s e = absurd (none-ne-some (made r s) e)
use_spelled before (other b) after r s e = absurd (none-ne-some (made r s) e)

drop_in : (k : ℕ) (ts : List Placed) (q : Placed) (qs : List Placed) → drop k ts ≡ q ∷ qs → In q ts
drop_in zero ts q qs e = subst (In q) (sym e) at_head
drop_in (suc k) [] q qs e = subst (In q) (sym e) at_head
drop_in (suc k) (p ∷ ps) q qs e = in_tail (drop_in k ps q qs e)

used_spelled : (text : List ℕ) (k : ℕ) (r : Role) (s : List ℕ) → Used (plain_tokens text) k r s → Spelled text (place 0 (drop k (tokens text))) s
used_spelled text k r s u = go (drop k (tokens text)) refl (ap (use_at (past (plain_tokens text) k)) (sym (drop-map (λ (p : Placed). p.token) k (tokens text))) ∙ u.is_used)
  where
    go : (l : List Placed) → drop k (tokens text) ≡ l → use_at (past (plain_tokens text) k) (tokens_of l) ≡ some (made r s) → Spelled text (place 0 l) s
    go [] e f = absurd (none-ne-some (made r s) f)
    go (q ∷ qs) e f =
        subst (Spelled text q.offset) (use_spelled (past (plain_tokens text) k) q.token (tokens_of qs) r s f)
        (placed_spelled text q (drop_in k (tokens text) q qs e))

used_in : (ts : List Token) (k : ℕ) (r : Role) (s : List ℕ) → Used ts k r s → In (made r s) (uses ts)
used_in ts k r s u = subst (In (made r s)) (all_seen ts) (earlier_seen ts r s (length ts) (record { index = k; earlier = used_within ts k r s u; used = u }))

module _ (w : Words) (text : List ℕ) (p : Program) where
  in_code : (l : Name) → address_of p l < length (image_of w text p).code
  in_code l = subst (λ (n : ℕ). address_of p l < n) (sym (code_is_sound_lem.size (layout w (plain_tokens text)) p)) (code_is_sound_lem.addresses p l)

  in_cells : (c : ℕ) → c < (layout w (plain_tokens text)).used → c < length (image_of w text p).cells
  in_cells c h = subst (λ (n : ℕ). c < n) (sym (value.length_cells w (plain_tokens text))) h

  leads_by : (r : Role) (s : List ℕ) → In (made r s) (uses (plain_tokens text)) →
      Leads w (layout w (plain_tokens text)) p (image_of w text p) s (cond (is_label r) (address_of p s) (cell w (plain_tokens text) (key_by w r s))) (kind_of r)
  leads_by definition s i = (refl, in_code s)
  leads_by target s i = (refl, in_code s)
  leads_by listed s i = (refl, in_code s)
  leads_by variable_use s i =
      let b = cells.variable_in w (plain_tokens text) s i in
      (refl, b.0, in_cells _ b.1, value.variable_held w (plain_tokens text) s i)
  leads_by number_use s i =
      let b = cells.literal_in w (plain_tokens text) s i in
      (refl, b.0, in_cells _ b.1, value.literal_held w (plain_tokens text) s i)

  stands : (s : Symbol) → FirstUse w (address_of p) (tokens text) s → SymbolStands w text p s
  stands s f =
      let q : Spelled text (place 0 (drop f.index (tokens text))) f.spelling = used_spelled text f.index f.role f.spelling f.used in
      subst (SymbolStands w text p) (sym f.is_symbol) (record {
        within = q.within;
        leads = subst (λ (bytes : List ℕ). Leads w (layout w (plain_tokens text)) p (image_of w text p) bytes (cond (is_label f.role) (address_of p f.spelling) (cell w (plain_tokens text) (key_by w f.role f.spelling))) (kind_of f.role))
            (sym q.same) (leads_by f.role f.spelling (used_in (plain_tokens text) f.index f.role f.spelling f.used));
      })

pub symbols_stand_lem : SymbolsStand
symbols_stand_lem w text p a s i = stands w text p s (table.sound w (address_of p) (tokens text) s i)
