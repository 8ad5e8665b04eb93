use Rattle.dist_model.proofs.laws.news_is_told.Goals as goal
use Rattle.dist_model.proofs.Views.{news_told, no_news_of_others}

pub returns-clause-told : goal.returns-clause-told
returns-clause-told c = news_told

pub returns-clause-others : goal.returns-clause-others
returns-clause-others c = no_news_of_others
