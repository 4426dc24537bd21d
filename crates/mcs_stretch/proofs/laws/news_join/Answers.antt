use Rattle.mcs_stretch.proofs.News.{news-joined}
use Rattle.mcs_stretch.proofs.laws.news_join.Goals as goal

pub returns : goal.returns
returns c = news-joined
