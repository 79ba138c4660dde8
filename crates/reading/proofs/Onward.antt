-- One token more, put together.
use Rattle.reading.specs.TokenLaws.{ReadingOn}
use Rattle.reading.proofs.Ending as ending
use Rattle.reading.proofs.Refusing as refusing
use Rattle.reading.proofs.Going as going

pub onward : ReadingOn
onward w text past p ps y k c t h =
    record {
      no_program = ending.no_program w text past p ps y k c t h;
      role_is = ending.role_is w text past p ps y k c t h;
      address_is = ending.address_is w text past p ps y k c t h;
      no_symbol = refusing.no_symbol w text past p ps y k c t h;
      no_form = refusing.no_form w text past p ps y k c t h;
      goes_on = going.goes_on w text past p ps y k c t h;
    }
