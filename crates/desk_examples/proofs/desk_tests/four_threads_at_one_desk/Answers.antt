-- What is handed out is a studio.
use Rattle.studio_seats.proofs.Grown.{leads}
use Rattle.desk_examples.proofs.desk_tests.four_threads_at_one_desk.Goals as goal

pub commits_in-requires : goal.commits_in-requires
commits_in-requires g c = (leads _ _ _ c.close-studio.ensures.stands).studio
