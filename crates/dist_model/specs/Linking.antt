-- Links: a process links itself, takes its link back, and hears of its partner.
-- (Reference Manual, Processes, Links; ERTS User's Guide, Distribution Protocol, New Link Protocol.)
use Rattle.erl_names.specs.Draw as kind
use Rattle.std.specs.Prelude.{map, ℕ, Bool, true, false, if◌then◌else◌}
use Rattle.dist_model.specs.Commands.{Accepts, Outcome, with_id}
use Rattle.dist_model.specs.declared.report.Answer.{Answer}
use Rattle.dist_model.specs.Exits.{link_exit}
use Rattle.dist_model.specs.Items.{telling}
use Rattle.dist_model.specs.Names.{same_pid}
use Rattle.dist_model.specs.Node.{end_of, living, reaches}
use Rattle.dist_model.specs.Work.{Addressed, Work, draw, post, post_all, set_end, to_pid}
use Rattle.erl_control.specs.declared.signal.Signal.{Signal}
use Rattle.erl_names.specs.Minted.{id_of}
use Rattle.erl_term.specs.declared.term.Pid.{Pid}
use Rattle.link_core.specs.News.{Exited, LinkNews, Signals, heard, noconnection, reply}
use Rattle.link_core.specs.Table.{is_active}
use Rattle.link_core.specs.declared.end.End.{End}

-- ---- p links itself to q: nothing where it is linked already, or where q is p

-- the link is lost at once if q's node isn't reached
abbrev pub link_new : Bool → Pid → Pid → Work → Work
link_new true p q work = post (to_pid q (Signal.Link p q)) (set_end p q End.Active work)
link_new false p q work = link_exit p q noconnection (set_end p q End.None work)

abbrev pub link_by : End → Pid → Pid → Work → Work
link_by end p q work = if is_active end then work else link_new (reaches work.node q.node) p q work

abbrev pub link : Pid → Pid → Work → Work
link p q work = if same_pid p q then work else link_by (end_of work.node p q) p q work

-- ---- p takes its link to q back, under a new id: nothing where it isn't linked

abbrev pub unlink_as : ℕ → Pid → Pid → Work → Work
unlink_as id p q work = post (to_pid q (Signal.UnlinkId id p q)) (set_end p q (End.Pending id) (draw kind.UnlinkId work))

abbrev pub unlink_by : End → Pid → Pid → Work → Outcome
unlink_by end p q work =
    if is_active end
    then with_id (id_of work.node.mint kind.UnlinkId) (λ id. Accepts Answer.Done (unlink_as id p q work))
    else Accepts Answer.Done work

-- ---- p hears news of q about their link

-- to an exit it reacts only where it was linked
abbrev pub exit_follows : End → LinkNews → Pid → Pid → Work → Work
exit_follows was (Signals signal) p q work = work
exit_follows was (Exited reason) p q work = if is_active was then link_exit p q reason work else work

-- as p tells it to q
abbrev pub told_to : Pid → Pid → LinkNews → Addressed
told_to p q news = to_pid q (telling p q news)

-- the reply goes before anything else
abbrev pub take_link_by : Bool → Pid → Pid → LinkNews → Work → Work
take_link_by true p q told work =
    let was = end_of work.node p q in
    exit_follows was told p q (post_all (map (told_to p q) (reply false told)) (set_end p q (heard was told) work))
take_link_by false p q told work = post_all (map (told_to p q) (reply true told)) work

abbrev pub take_link : Pid → Pid → LinkNews → Work → Work
take_link p q told work = take_link_by (living work.node p) p q told work
