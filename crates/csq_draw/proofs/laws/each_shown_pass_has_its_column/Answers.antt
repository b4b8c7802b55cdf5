use Rattle.csq_draw.proofs.WindowColumns.{shown_column}
use Rattle.csq_draw.proofs.laws.each_shown_pass_has_its_column.Goals as goal

pub returns : goal.returns
returns c = shown_column
