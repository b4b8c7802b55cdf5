use Rattle.csq_draw.proofs.PictureLaws.{each_words}
use Rattle.csq_draw.proofs.laws.each_step_shows_its_words.Goals as goal

pub returns : goal.returns
returns c = each_words
