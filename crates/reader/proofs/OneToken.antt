-- A token at a reader and a table that hold what the tokens before it make: it is refused, or they go on.
use Rattle.std.proofs.Common.{◌≡◌, ℕ, ◌-◌, ◌≤◌, min, Bool, List, ◌∷◌, length, take, drop, Some, None, Ok, Err, Option, Result, sym, refl, ap, ◌∙◌, subst, Bor, arith}
use Rattle.std.specs.Option.{ok_or}
use mathlib.Core.Option as maybe
use mathlib.Core.Option.{none-ne-some}
use Rattle.std.proofs.Math.Option.{some-injective}
use Rattle.fault.specs.declared.Fault.{Fault}
use Rattle.fault.specs.declared.Refusal.TheVariants.{NoProgram}
use Rattle.fault.specs.Refusals.{numbered}
use Rattle.token.specs.Tokens.{Token, name, number, keyword, sign, other, Placed}
use Rattle.token.specs.Reading.{Stands}
use Rattle.arithmetic.specs.Words.{Words}
use Rattle.limits.specs.Uses.{Role, Use, made, is_listed}
use Rattle.limits.specs.Rules.{text_limit, code_limit, tokens_of}
use Rattle.emission.specs.declared.state.State.{State}
use Rattle.emission.specs.Table.{Entry}
use Rattle.emission.specs.Classes.{class_or_end}
use Rattle.symbols.specs.declared.table.Table.{Table}
use Rattle.symbols.specs.declared.kinds.Role.{Role as UseRole}
use Rattle.symbols.specs.Entries.{meant}
use Rattle.symbols.specs.Mentions.{Mention, uses_of, use_refusal}
use Rattle.symbols.specs.Table.{Gives, mention, Keeps as TableKeeps}
use Rattle.assembly.specs.Plans.{Plan, acted}
use Rattle.reading.specs.declared.counts.Counts.{Counts}
use Rattle.reading.specs.declared.returns.Return.{Return as Coded}
use Rattle.reading.specs.Steps.{Found, leaving, pushed_all}
use Rattle.reading.specs.Counting.{counted, form_refusal}
use Rattle.reading.specs.Reads as reading
use Rattle.reading.specs.Reads.{role_at, current, label_at, mentions, refused_first, Reads}
use Rattle.reading.specs.TokenLaws.{use_by, listed_by, Told, at_token, role_here, use_here, ifs_here, OneToken}
use Rattle.reader.specs.declared.reader.Reader.{Reader}
use Rattle.reader.specs.declared.step.Step.{Step}
use Rattle.reader.specs.Views.{plan, rooms, returns, return_room, Keeps, entry_of, Answers}
use Rattle.reader.specs.Tokens.{listed_name, counted_by, form_refusal_by}
use Rattle.reader.specs.Telling.{Noted, TokenNoted}
use Rattle.reader.specs.Taking.{refused, FormChecked, After, TakenAt, Comes}
use Rattle.reading.proofs.Onward.{onward as reading_on}

-- the error in place of no value
pub no_value : {T : Type 0} (o : Option T) (f g : Fault) → Err g ≡ ok_or o f → o ≡ None → g ≡ f
no_value o f g e n = cc

-- a name is a label in a list by its role, and no other token is one
listed_use : (r : Role) (t : Token) → listed_name (is_listed r) t ≡ listed_by (use_by r t)
listed_use r (name n) = refl
listed_use r (number n) = refl
listed_use r (keyword k) = refl
listed_use r (sign s) = refl
listed_use r (other b) = refl

module _ (w : Words) (text : List ℕ) (past : List Placed) (p : Placed) (ps : List Placed) (y : Plan) (k : List Coded) (c : Counts) (t : Table)
    (h : Reads w text past (p ∷ ps) y k c t) where
  abbrev spot : Found
  spot = at_token w text past p ps y k c t

  abbrev role_of_name : Role
  role_of_name = role_here w text past p ps y k c t

  abbrev used : maybe.Option Use
  used = use_here w text past p ps y k c t

  abbrev seen : List Mention
  seen = mentions w text past (p ∷ ps)

  abbrev label : ℕ
  label = label_at w text (tokens_of past)

  abbrev Unrefused : maybe.Option Use → Type 0
  Unrefused o = (u : Use) → o ≡ maybe.some u → use_refusal w (uses_of seen) u ≡ maybe.none

  one : OneToken w text past p ps y k c t
  one = reading_on w text past p ps y k c t h

  -- the token is told to the table: no refusal stands at its use, or the one that is answered
  abbrev pub Accounted : maybe.Option Use → Table → Result ℕ Fault → Type 0
  Accounted o b (Ok v) = Unrefused o × Told w text past p ps o t b v
  Accounted o b (Err f) = (u : Use) × (o ≡ maybe.some u) × (use_refusal w (uses_of seen) u ≡ maybe.some (numbered f.refusal)) × (f.place ≡ p.offset)

  by_use : (b : Table) (u : Use) (x : Result ℕ Fault) → Noted w b seen (record { used = u; place = p.offset; address = label }) x → Accounted (maybe.some u) b x
  by_use b u (Ok v) n = (λ z e. ap (use_refusal w (uses_of seen)) (sym (some-injective u z e)) ∙ n.0, (n.1, n.2))
  by_use b u (Err f) n = (u, refl, n.0, n.1)

  by_none : (b : Table) (x : Result ℕ Fault) → (b ≡ t) × (x ≡ Ok 0) → Accounted maybe.none b x
  by_none b x n = subst (Accounted maybe.none b) (sym n.1) (λ u e. absurd (none-ne-some _ e), n.0)

  pub accounted : (b : Table) (r : UseRole) (x : Result ℕ Fault) → length text ≤ text_limit → Stands text p.offset p.token → meant r ≡ role_of_name →
      ((u : Use) → used ≡ maybe.some u → Gives r label) → TokenNoted w t b r p.offset (Some p.token) x → Accounted used b x
  accounted b r x l s e g n = go p.token refl s n
    where
      low : label ≤ code_limit
      low = omega arith

      go : (z : Token) → p.token ≡ z → Stands text p.offset z → TokenNoted w t b r p.offset (Some z) x → Accounted (use_by role_of_name z) b x
      go (name bytes) q s n =
          by_use b (made role_of_name bytes) x (subst (λ (z : Role). Noted w b seen (mention z bytes p.offset label) x) e (n w seen label h.holds
          (record { place_short = omega (arith, s.within, s.some); bytes_short = omega (arith, s.within) })
          (g (made role_of_name bytes) (ap (use_by role_of_name) q))
          (record { bytes = ap (λ z. take (length bytes) (drop p.offset z)) h.text_is ∙ s.bytes; address = omega arith })))
      go (number digits) q s n =
          by_use b _ x (n seen label h.holds
          (record { place_short = omega (arith, s.within, s.some); bytes_short = omega (arith, s.within) })
          (record { bytes = ap (λ z. take (length digits) (drop p.offset z)) h.text_is ∙ s.bytes; address = omega arith })
          s.proper.1)
      go (keyword j) q s n = by_none b x n
      go (sign j) q s n = by_none b x n
      go (other v) q s n = by_none b x n

  -- the definition of a label at the next word, where one comes
  pub placed_there : (a : ℕ) (e : Entry) (r : UseRole) → spot.taken ≡ maybe.some (a, e) → Gives r (min spot.plan.made.count code_limit) → (u : Use) → used ≡ maybe.some u → Gives r label
  placed_there a e r f g u v = subst (Gives r) (one.address_is a e u f v) g

  pub no_state : spot.taken ≡ maybe.none → refused_first w text ≡ maybe.some (refused (record { refusal = NoProgram; place = p.offset }))
  no_state e = one.no_program e

  pub use_refused : (a : ℕ) (e : Entry) (b : Table) (f : Fault) → spot.taken ≡ maybe.some (a, e) → Accounted used b (Err f) → refused_first w text ≡ maybe.some (refused f)
  use_refused a e b f x n =
      one.no_symbol a e n.0 (numbered f.refusal) x n.1 n.2 ∙ ap (λ z. maybe.some (record { number = numbered f.refusal; place = z })) (sym n.3)

  pub form_refused : (a : ℕ) (e : Entry) (b : Table) (v : ℕ) (f : Fault) → spot.taken ≡ maybe.some (a, e) → Accounted used b (Ok v) →
      form_refusal c (ifs_here w text past p ps y k c t) (listed_by used) p.token ≡ Some f.refusal → f.place ≡ p.offset → refused_first w text ≡ maybe.some (refused f)
  form_refused a e b v f x n g q =
      one.no_form a e f.refusal x n.0 g ∙ ap (λ z. maybe.some (record { number = numbered f.refusal; place = z })) (sym q)

-- A reader and a table that hold what the tokens past make, at a token, which is the next one.
module _ (w : Words) (text : List ℕ) (past : List Placed) (p : Placed) (ps : List Placed) (a : Reader) (s : Table) (place : ℕ) (token : Option Token) (of : Bool)
    (h : After w text past (p ∷ ps) a s) (x : Comes text p ps place token of) where
  abbrev pub here : Found
  here = at_token w text past p ps (plan a) (returns a) a.counts s

  abbrev its_use : maybe.Option Use
  its_use = use_here w text past p ps (plan a) (returns a) a.counts s

  -- what the states come to that are left, by the class of the token
  abbrev pub left : ℕ → Found
  left k = leaving (rooms a) k (returns a) (plan a)

  left_is : (k : ℕ) → k ≡ class_or_end token → left k ≡ here
  left_is k e = λ i. leaving (h.rooms_are i) ((e ∙ ap class_or_end x.token_is) i) (returns a) (plan a)

  -- no state takes it
  pub refused_at_once : (k : ℕ) → k ≡ class_or_end token → (o : Option Step) → Answers (left k).taken o → o ≡ None →
      (b : Reader) (t : Table) (y : Result (Unit {0}) Fault) → y ≡ Err (record { refusal = NoProgram; place = place }) → TakenAt w text past p ps b t y
  refused_at_once k e o f n b t y g =
      subst (TakenAt w text past p ps b t) (sym g)
      (no_state w text past p ps (plan a) (returns a) a.counts s h.reads (ap (λ (z : Found). z.taken) (sym (left_is k e)) ∙ subst (Answers (left k).taken) n f)
      ∙ ap (λ z. maybe.some (refused (record { refusal = NoProgram; place = z }))) (sym x.place_is))

  -- The state that takes it goes by the step d; those above it are left, and a name has the role r.
  module _ (l : Reader) (d : Step) (r : UseRole) where
    pub record Halfway : Type 0 where
      pub takes : here.taken ≡ maybe.some (d.entered, entry_of d)
      pub below_is : returns l ≡ here.below
      pub plan_is : plan l ≡ here.plan
      pub counts_are : l.counts ≡ a.counts
      pub kept : Keeps a l
      pub means : meant r ≡ role_here w text past p ps (plan a) (returns a) a.counts s
      pub gives : Gives r (min here.plan.made.count code_limit)

    pub halfway : (k : ℕ) → k ≡ class_or_end token → (o : Option Step) → Answers (left k).taken o → o ≡ Some d → returns l ≡ (left k).below → plan l ≡ (left k).plan →
        l.counts ≡ a.counts → Keeps a l → (state : State) → state ≡ current (returns a) → meant r ≡ role_at state of →
        (count address : ℕ) → count ≡ (plan l).made.count → address ≡ min count code_limit → Gives r address → Halfway
    halfway k e o f n below there counts kept state state_is means count address count_is address_is gives =
        let z = left_is k e in
        let plan_is : plan l ≡ here.plan = there ∙ ap (λ (f : Found). f.plan) z in
        record {
          takes = ap (λ (f : Found). f.taken) (sym z) ∙ subst (Answers (left k).taken) n f;
          below_is = below ∙ ap (λ (f : Found). f.below) z;
          plan_is = plan_is;
          counts_are = counts;
          kept = kept;
          means = means ∙ (λ i. role_at (state_is i) (x.of_is i));
          gives = subst (Gives r) (address_is ∙ ap (λ n. min n code_limit) (count_is ∙ ap (λ (y : Plan). y.made.count) plan_is)) gives;
        }

    module _ (y : Halfway) (b : Table) where
      -- what the table answers
      heard : (z : Result ℕ Fault) → TokenNoted w s b r place token z → Accounted w text past p ps (plan a) (returns a) a.counts s h.reads its_use b z
      heard z told =
          accounted w text past p ps (plan a) (returns a) a.counts s h.reads b r z x.short x.stands y.means
          (placed_there w text past p ps (plan a) (returns a) a.counts s h.reads d.entered (entry_of d) r y.takes y.gives)
          (subst (λ k. TokenNoted w s b r k (Some p.token) z) x.place_is (subst (λ k. TokenNoted w s b r place k z) x.token_is told))

      -- it is refused by that
      pub refused_at_use : (f : Fault) → TokenNoted w s b r place token (Err f) → (n : Reader) (t : Table) (z : Result (Unit {0}) Fault) → z ≡ Err f → TakenAt w text past p ps n t z
      refused_at_use f told n t z e =
          subst (TakenAt w text past p ps n t) (sym e)
          (use_refused w text past p ps (plan a) (returns a) a.counts s h.reads d.entered (entry_of d) b f y.takes (heard (Err f) told))

      module _ (v : ℕ) (told : TokenNoted w s b r place token (Ok v)) (listed : Bool) (listed_is : listed ≡ is_listed (meant r)) where
        form : form_refusal_by l.counts (length (returns l) - 1) listed token ≡
            form_refusal a.counts (ifs_here w text past p ps (plan a) (returns a) a.counts s) (listed_by its_use) p.token
        form =
            (λ i. form_refusal_by (y.counts_are i) (length (y.below_is i) - 1) ((listed_is ∙ ap is_listed y.means) i) (x.token_is i))
            ∙ ap (λ z. form_refusal a.counts (ifs_here w text past p ps (plan a) (returns a) a.counts s) z p.token) (listed_use _ p.token)

        -- by what is counted
        pub refused_by_form : (f : Fault) → FormChecked l.counts (length (returns l) - 1) listed place token (Err f) → (n : Reader) (t : Table) (z : Result (Unit {0}) Fault) → z ≡ Err f →
            TakenAt w text past p ps n t z
        refused_by_form f g n t z e =
            subst (TakenAt w text past p ps n t) (sym e)
            (form_refused w text past p ps (plan a) (returns a) a.counts s h.reads d.entered (entry_of d) b v f y.takes (heard (Ok v) told) (sym form ∙ g.0) (g.1 ∙ x.place_is))

        -- or it is taken
        pub onward : FormChecked l.counts (length (returns l) - 1) listed place token (Ok tt) → TableKeeps s b → (m : Reader) (c : Counts) →
            plan m ≡ acted (rooms l) d.action d.entered v (plan l) → returns m ≡ pushed_all (return_room l) (plan m).made.count (entry_of d).states (returns l) →
            m.counts ≡ l.counts → Keeps l m → c ≡ counted_by token m.counts → After w text (p ∷ past) ps (record { assembler = m.assembler; returns = m.returns; counts = c }) b
        onward g table_kept m c acts pushes same kept counts_after =
            let told_here = heard (Ok v) told in
            let one = one w text past p ps (plan a) (returns a) a.counts s h.reads in
            let room_here : rooms l ≡ reading.room = (λ i. record { marks = y.kept.assembly.operators_room i; cells = y.kept.assembly.operands_room i }) ∙ h.rooms_are in
            let room_after : rooms m ≡ reading.room = (λ i. record { marks = kept.assembly.operators_room i; cells = kept.assembly.operands_room i }) ∙ room_here in
            let returns_here : return_room l ≡ reading.return_room = y.kept.returns_room ∙ h.return_room_is in
            let made : Plan = acted reading.room d.action d.entered v here.plan in
            let plan_after : plan m ≡ made = acts ∙ (λ i. acted (room_here i) d.action d.entered v (y.plan_is i)) in
            let stacked : List Coded = pushed_all reading.return_room made.made.count (entry_of d).states here.below in
            let returns_after : returns m ≡ stacked = pushes ∙ (λ i. pushed_all (returns_here i) (plan_after i).made.count (entry_of d).states (y.below_is i)) in
            let counts_are : c ≡ counted p.token a.counts = counts_after ∙ (λ i. counted_by (x.token_is i) ((same ∙ y.counts_are) i)) in
            let went : Reads w text (p ∷ past) ps made stacked (counted p.token a.counts) b =
            one.goes_on d.entered (entry_of d) b v y.takes told_here.0 told_here.1 (ap (λ (z : Bor (List ℕ)). z.now) table_kept.text ∙ h.reads.text_is) (sym form ∙ g) in
            record {
              rooms_are = room_after;
              return_room_is = kept.returns_room ∙ returns_here;
              reads =
                  subst (λ z. Reads w text (p ∷ past) ps z (returns m) c b) (sym plan_after) (subst (λ z. Reads w text (p ∷ past) ps made z c b) (sym returns_after)
                  (subst (λ z. Reads w text (p ∷ past) ps made stacked z b) (sym counts_are) went));
            }
