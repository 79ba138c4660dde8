use Rattle.reader.proofs.End.{read_whole, broken_off}
use Rattle.reader.proofs.reader.Reader.finish.Goals as goal

pub returns-in-Some : goal.returns-in-Some
returns-in-Some c = λ w text past t place_is h. broken_off w text past c.args.self.now t c.args.place place_is h _ c.in-Some.ensures.0 c.in-Some.ensures.1

pub returns-in-None : goal.returns-in-None
returns-in-None c = λ w text past t place_is h. (read_whole w text past c.args.self.now t h c.in-None.ensures, c.in-None.ensures)
