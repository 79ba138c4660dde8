use Rattle.std.proofs.Common.{sym, arith}
use Rattle.decimal.proofs.Lasts.{one_digit, digits_between}
use Rattle.decimal.proofs.digits_by_range.Goals as goal

pub returns-in-0-to-9 : goal.returns-in-0-to-9
returns-in-0-to-9 c = record { value = sym (one_digit c.args.n (omega arith)); bound = (omega arith, omega arith) }

pub returns-in-10-to-99 : goal.returns-in-10-to-99
returns-in-10-to-99 c = record { value = sym (digits_between 1 c.args.n (omega arith) (omega arith) (omega arith)); bound = (omega arith, omega arith) }

pub returns-in-100-to-999 : goal.returns-in-100-to-999
returns-in-100-to-999 c = record { value = sym (digits_between 2 c.args.n (omega arith) (omega arith) (omega arith)); bound = (omega arith, omega arith) }

pub returns-in-1000-to-9999 : goal.returns-in-1000-to-9999
returns-in-1000-to-9999 c = record { value = sym (digits_between 3 c.args.n (omega arith) (omega arith) (omega arith)); bound = (omega arith, omega arith) }

pub returns-in-10000-to-99999 : goal.returns-in-10000-to-99999
returns-in-10000-to-99999 c = record { value = sym (digits_between 4 c.args.n (omega arith) (omega arith) (omega arith)); bound = (omega arith, omega arith) }

pub returns-in-100000-to-999999 : goal.returns-in-100000-to-999999
returns-in-100000-to-999999 c = record { value = sym (digits_between 5 c.args.n (omega arith) (omega arith) (omega arith)); bound = (omega arith, omega arith) }

pub returns-in-1000000-to-9999999 : goal.returns-in-1000000-to-9999999
returns-in-1000000-to-9999999 c = record { value = sym (digits_between 6 c.args.n (omega arith) (omega arith) (omega arith)); bound = (omega arith, omega arith) }

pub returns-in-10000000-to-99999999 : goal.returns-in-10000000-to-99999999
returns-in-10000000-to-99999999 c = record { value = sym (digits_between 7 c.args.n (omega arith) (omega arith) (omega arith)); bound = (omega arith, omega arith) }

pub returns-in-100000000-to-999999999 : goal.returns-in-100000000-to-999999999
returns-in-100000000-to-999999999 c = record { value = sym (digits_between 8 c.args.n (omega arith) (omega arith) (omega arith)); bound = (omega arith, omega arith) }

pub returns-in_default : goal.returns-in_default
returns-in_default c = record { value = sym (digits_between 9 c.args.n (omega arith) (omega arith) (omega arith)); bound = (omega arith, omega arith) }
