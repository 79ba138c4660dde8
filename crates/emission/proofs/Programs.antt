-- The draft of a whole program.
use Rattle.std.proofs.Common.{◌≡◌, ℕ, ◌+◌, List, [], ◌∷◌, ◌++◌, map, reverse, length, sym, refl, ap, ◌∙◌, subst, append_assoc, append-nil, arith}
use mathlib.Core.List.{reverse_aux, reverse_aux-eq, reverse_aux-append}
use mathlib.Core.Option
use mathlib.Core.Option.{Option, none, some, some-injective, none-ne-some}
use lib.ListN.{length-reverse_aux}
use Rattle.std.proofs.lemmas.List.{map-append, reverse-reverse}
use Rattle.token.specs.Tokens.{Token}
use Rattle.trees.specs.Trees.{Name, Command, labelled, empty, assign, go_to, go_to_of, read, print, branch, Program}
use Rattle.runs.specs.declared.instruction.Instruction.TheVariants.{Stop}
use Rattle.runs.specs.Machine.{encode}
use Rattle.runs.specs.Code.{Layout, size, sizes, then_at, else_at, locate, locate_all, address_of, codes, instructions}
use Rattle.grammar.specs.Grammar.{Parses, IsProgram}
use Rattle.grammar.specs.Concrete.{sole, then, Statements, head, tail, command_tree, program_tree}
use Rattle.grammar.proofs.Theorems.{accepts_sound, done_complete}
use Rattle.emission.specs.Draft.{Word, fixed, Definition, Draft, idle, plain, address_in, label_address, resolved, settled}
use Rattle.emission.specs.Table.{Translator, translator, translated}
use Rattle.emission.specs.Control.{control_in}
use Rattle.emission.specs.Laws.{Whole}
use Rattle.emission.proofs.Drafted.{definitions_of, drafted}
use Rattle.emission.proofs.Sizes.{drafted_is, drafted_size}
use Rattle.emission.proofs.Controls.{control_reach}
use Rattle.emission.proofs.Image.{words_all, labels_all, image, translated_is}

-- the commands of a program in their order
abbrev listed : Statements → List Command
listed cs = head command_tree cs ∷ tail command_tree cs

sizes_more : (cs : List Command) (c : Command) → sizes (cs ++ c ∷ []) ≡ sizes cs + size c
sizes_more [] c = omega arith
sizes_more (x ∷ cs) c = let h = sizes_more cs c in omega arith

-- Labels.
address_onto : (l : Name) (c : Command) (a : ℕ) (ds : List Definition) (e : ℕ) → address_in (reverse_aux (definitions_of a c) ds) l e ≡ address_in ds l (locate l a c e)
address_onto l (labelled n c) a ds e = address_onto l c a (record { label = n; address = a } ∷ ds) e
address_onto l empty a ds e = refl
address_onto l (assign x f) a ds e = refl
address_onto l (go_to n) a ds e = refl
address_onto l (go_to_of x n ns) a ds e = refl
address_onto l (read xs) a ds e = refl
address_onto l (print es) a ds e = refl
address_onto l (branch r f g c d) a ds e =
    ap (λ z. address_in z l e) (reverse_aux-append (definitions_of (then_at a f g) c) (definitions_of (else_at a f g c) d) ds)
    ∙ address_onto l d (else_at a f g c) (reverse_aux (definitions_of (then_at a f g) c) ds) e
    ∙ address_onto l c (then_at a f g) ds (locate l (else_at a f g c) d e)

abbrev locate_from : Name → ℕ → List Command → ℕ → ℕ
locate_from l a [] e = e
locate_from l a (c ∷ cs) e = locate l a c (locate_from l (a + size c) cs e)

locate_more : (l : Name) (cs : List Command) (a : ℕ) (c : Command) (e : ℕ) → locate_from l a (cs ++ c ∷ []) e ≡ locate_from l a cs (locate l (a + sizes cs) c e)
locate_more l [] a c e = let h : a ≡ a + 0 = omega arith in ap (λ n. locate l n c e) h
locate_more l (x ∷ cs) a c e =
    let h : (a + size x) + sizes cs ≡ a + (size x + sizes cs) = omega arith in
    ap (locate l a x) (locate_more l cs (a + size x) c e ∙ ap (λ n. locate_from l (a + size x) cs (locate l n c e)) h)

locate_all_is : (l : Name) (cs : List Command) (a : ℕ) → locate_all l a cs ≡ locate_from l a cs (a + sizes cs)
locate_all_is l [] a = omega arith
locate_all_is l (c ∷ cs) a =
    let h : (a + size c) + sizes cs ≡ a + (size c + sizes cs) = omega arith in
    ap (locate l a c) (locate_all_is l cs (a + size c) ∙ ap (locate_from l (a + size c) cs) h)

module _ (y : Layout) where
  -- Words.
  abbrev drafted_all : ℕ → List Command → List Word
  drafted_all a [] = []
  drafted_all a (c ∷ cs) = drafted y a c ++ drafted_all (a + size c) cs

  drafted_more : (cs : List Command) (a : ℕ) (c : Command) → drafted_all a (cs ++ c ∷ []) ≡ drafted_all a cs ++ drafted y (a + sizes cs) c
  drafted_more [] a c = let h : a ≡ a + 0 = omega arith in append-nil (drafted y a c) ∙ ap (λ n. drafted y n c) h
  drafted_more (x ∷ cs) a c =
      let h : (a + size x) + sizes cs ≡ a + (size x + sizes cs) = omega arith in
      ap (λ z. drafted y a x ++ z) (drafted_more cs (a + size x) c ∙ ap (λ n. drafted_all (a + size x) cs ++ drafted y n c) h)
      ∙ sym (append_assoc (drafted y a x) (drafted_all (a + size x) cs) (drafted y (a + (size x + sizes cs)) c))

  all_size : (cs : Statements) → length (words_all y cs) ≡ sizes (listed cs)
  all_size (sole c) =
      let p : length (words_all y (sole c)) ≡ length (drafted y 0 (command_tree c)) + 0 = length-reverse_aux (drafted y 0 (command_tree c)) [] in
      let q = drafted_size y (command_tree c) 0 in
      omega arith
  all_size (then cs c) =
      let p : length (words_all y (then cs c)) ≡ length (drafted y (length (words_all y cs)) (command_tree c)) + length (words_all y cs) =
      length-reverse_aux (drafted y (length (words_all y cs)) (command_tree c)) (words_all y cs) in
      let q = drafted_size y (command_tree c) (length (words_all y cs)) in
      let r = all_size cs in
      let s = sizes_more (listed cs) (command_tree c) in
      omega arith

  all_words : (cs : Statements) → words_all y cs ≡ reverse_aux (drafted_all 0 (listed cs)) []
  all_words (sole c) = ap (λ z. reverse_aux z []) (sym (append-nil (drafted y 0 (command_tree c))))
  all_words (then cs c) =
      (λ i. reverse_aux (drafted y (all_size cs i) (command_tree c)) (all_words cs i))
      ∙ ap (λ n. reverse_aux (drafted y n (command_tree c)) (reverse_aux (drafted_all 0 (listed cs)) [])) h
      ∙ sym (reverse_aux-append (drafted_all 0 (listed cs)) (drafted y (0 + sizes (listed cs)) (command_tree c)) [])
      ∙ ap (λ z. reverse_aux z []) (sym (drafted_more (listed cs) 0 (command_tree c)))
    where
      h : sizes (listed cs) ≡ 0 + sizes (listed cs)
      h = omega arith

  all_codes : (to : Name → ℕ) (cs : List Command) (a : ℕ) → map (resolved to) (drafted_all a cs ++ fixed Stop ∷ []) ≡ codes y to a cs
  all_codes to [] a = refl
  all_codes to (c ∷ cs) a =
      ap (map (resolved to)) (append_assoc (drafted y a c) (drafted_all (a + size c) cs) (fixed Stop ∷ []))
      ∙ map-append (resolved to) (drafted y a c) (drafted_all (a + size c) cs ++ fixed Stop ∷ [])
      ∙ (λ i. drafted_is y to c a i ++ all_codes to cs (a + size c) i)

  all_labels : (l : Name) (cs : Statements) (e : ℕ) → address_in (labels_all y cs) l e ≡ locate_from l 0 (listed cs) e
  all_labels l (sole c) e = address_onto l (command_tree c) 0 [] e
  all_labels l (then cs c) e =
      address_onto l (command_tree c) (length (words_all y cs)) (labels_all y cs) e
      ∙ all_labels l cs (locate l (length (words_all y cs)) (command_tree c) e)
      ∙ ap (λ n. locate_from l 0 (listed cs) (locate l n (command_tree c) e)) (all_size cs ∙ h)
      ∙ sym (locate_more l (listed cs) 0 (command_tree c) e)
    where
      h : sizes (listed cs) ≡ 0 + sizes (listed cs)
      h = omega arith

  -- the draft of a program
  abbrev draft_all : Statements → Draft
  draft_all cs = plain (idle (fixed Stop ∷ words_all y cs)) (labels_all y cs)

  all_addresses : (cs : Statements) (l : Name) → label_address (draft_all cs) l ≡ address_of (program_tree cs) l
  all_addresses cs l = all_labels l cs (length (words_all y cs)) ∙ ap (locate_from l 0 (listed cs)) (all_size cs ∙ h) ∙ sym (locate_all_is l (listed cs) 0)
    where
      h : sizes (listed cs) ≡ 0 + sizes (listed cs)
      h = omega arith

  all_settled : (cs : Statements) → settled (draft_all cs) ≡ instructions y (program_tree cs)
  all_settled cs =
      ap (λ (z : List Word). map (resolved (label_address (draft_all cs))) (reverse_aux z (fixed Stop ∷ []))) (all_words cs)
      ∙ ap (map (resolved (label_address (draft_all cs)))) (reverse_aux-eq (reverse (drafted_all 0 (listed cs))) (fixed Stop ∷ []) ∙ ap (λ z. z ++ fixed Stop ∷ []) (reverse-reverse (drafted_all 0 (listed cs))))
      ∙ all_codes (label_address (draft_all cs)) (listed cs) 0
      ∙ (λ i. codes y (λ l. all_addresses cs l i) 0 (listed cs))

  whole_draft : (cs : Statements) → Whole y (program_tree cs) (draft_all cs)
  whole_draft cs = record {
    same_instructions = all_settled cs;
    same_words = ap (map encode) (all_settled cs);
    same_size = let h = all_size cs in omega arith;
    same_addresses = all_addresses cs;
    nothing_open = refl;
  }

  pub complete : (ts : List Token) (p : Program) → Parses ts p → (d : Draft) × (translated y ts ≡ some (translator [] d)) × Whole y p d
  complete ts p g =
      let x = done_complete ts p g in
      (draft_all x.0, translated_is y ts ∙ ap (Option.map (image y)) x.1, subst (λ (q : Program). Whole y q (draft_all x.0)) x.2 (whole_draft x.0))

  pub sound : (ts : List Token) (d : Draft) → translated y ts ≡ some (translator [] d) → (p : Program) × Parses ts p × Whole y p d
  sound ts d e =
      let g : IsProgram ts = accepts_sound ts (rw (sym (control_reach y ts) ∙ ap (Option.map control_in) e) tt) in
      let x = complete ts g.0 g.1 in
      let q : translator [] x.0 ≡ translator [] d = some-injective (translator [] x.0) (translator [] d) (sym x.1 ∙ e) in
      (g.0, g.1, subst (Whole y g.0) (ap (λ (z : Translator). z.made) q) x.2)
