use Rattle.limits.proofs.Cells as th
use Rattle.limits.proofs.cells_are_apart.Goals as goal

pub returns : goal.returns
returns c = record {
  variables_apart = th.variables_apart;
  numbers_apart = th.numbers_apart;
  words_apart = th.words_apart;
  words_share = th.words_share;
  variable_in = th.variable_in;
  literal_in = th.literal_in;
  few_cells = th.few_cells;
  few_symbols = th.few_symbols;
}
