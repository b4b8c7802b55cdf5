use Rattle.csq_draw.proofs.BarLaws.{each_bar}
use Rattle.csq_draw.proofs.laws.each_bar_shows_the_words.Goals as goal

pub returns : goal.returns
returns c = each_bar
