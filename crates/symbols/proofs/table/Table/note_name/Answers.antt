use Rattle.std.proofs.Common.{sym, ap, ◌∙◌, rules}
use Rattle.std.specs.Option.{option_map}
use Rattle.symbols.specs.Table.{fault_at}
use Rattle.symbols.proofs.Noting.{found_none, no_definition}
use Rattle.symbols.proofs.Telling.{known_refused, known_kept, known_placed, new_refused, new_entered}
use Rattle.symbols.proofs.table.Table.note_name.Goals as goal

pub returns-in_err-found_at-in-Some-clause-told : goal.returns-in_err-found_at-in-Some-clause-told
returns-in_err-found_at-in-Some-clause-told c =
    known_refused c.args.self.now c.args.role c.args.spelling (sym c.if-is_long.ensures) c.in-Some.index c.in-Some.ensures.0 c.in-Some.ensures.1 c.in_err-found_at-in-Some.field-0.0 _
    (c.in_err-found_at-in-Some.ensures ∙ ap (option_map (fault_at c.args.spelling.place)) c.check_known.ensures) (search rules)

pub returns-in_err-found_at-in-None-clause-told : goal.returns-in_err-found_at-in-None-clause-told
returns-in_err-found_at-in-None-clause-told c =
    new_refused c.args.self.now c.args.role c.args.spelling (sym c.if-is_long.ensures) c.in-None.ensures c.in_err-found_at-in-None.field-0.0 _
    (c.in_err-found_at-in-None.ensures ∙ ap (option_map (fault_at c.args.spelling.place)) c.check_room.ensures) (search rules)

pub returns-in-Definition-clause-told : goal.returns-in-Definition-clause-told
returns-in-Definition-clause-told c =
    known_placed c.args.self.now c.args.role c.args.spelling (sym c.if-is_long.ensures) c.in-Some.index c.in-Some.ensures.0 c.in-Some.ensures.1
    (sym c.check_known.ensures ∙ found_none c.args.spelling.place _ c.in_ok-found_at-in-Some.ensures) c.place_label.new.self c.in-Definition.address c.in-Definition.is c.place_label.ensures

pub returns-in_default-clause-told : goal.returns-in_default-clause-told
returns-in_default-clause-told c =
    known_kept c.args.self.now c.args.role c.args.spelling (sym c.if-is_long.ensures) c.in-Some.index c.in-Some.ensures.0 c.in-Some.ensures.1
    (sym c.check_known.ensures ∙ found_none c.args.spelling.place _ c.in_ok-found_at-in-Some.ensures) (no_definition c.args.role c.in_default.not-Definition)

pub returns-else-is_short-clause-told : goal.returns-else-is_short-clause-told
returns-else-is_short-clause-told c =
    new_entered c.args.self.now c.args.role c.args.spelling (sym c.if-is_long.ensures) c.in-None.ensures c.add_name.new.self c.add_name.result
    (sym c.check_room.ensures ∙ found_none c.args.spelling.place _ c.in_ok-found_at-in-None.ensures) c.add_name.ensures.index c.add_name.ensures.after
