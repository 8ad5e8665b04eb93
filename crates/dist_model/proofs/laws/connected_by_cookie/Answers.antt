use Rattle.dist_model.proofs.laws.connected_by_cookie.Goals as goal
use Rattle.dist_model.proofs.Histories.{challenges_are_drawn, connected_by_cookie, one_challenge, strangers_stay_apart, throughout}
use Rattle.dist_model.specs.Cookies.{ChallengesAreDrawn, ConnectedByCookie, OneChallenge}
use Rattle.dist_model.specs.Histories.{told}
use Rattle.std.proofs.Common.{[]}

pub returns-clause-shown : goal.returns-clause-shown
returns-clause-shown c = throughout ConnectedByCookie connected_by_cookie

pub returns-clause-apart : goal.returns-clause-apart
returns-clause-apart c = λ nodes events reports w i.
    strangers_stay_apart (told events reports []) w (throughout ConnectedByCookie connected_by_cookie nodes events reports w i)

pub returns-clause-one : goal.returns-clause-one
returns-clause-one c = throughout OneChallenge one_challenge

pub returns-clause-drawn : goal.returns-clause-drawn
returns-clause-drawn c = throughout ChallengesAreDrawn challenges_are_drawn
