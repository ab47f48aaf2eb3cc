-- What is told of a project.
use Rattle.session_run.proofs.Common.{inl, inr, ◌∙◌, List, subst, TrackLine, change, Prints, from_sink}
use Rattle.script_text.specs.{declared.project.ProjectLines.ProjectLines, Project.project_text}
use Rattle.session_run.proofs.{ProjectLemmas.same_tracks, StreamLemmas.prints}
use Rattle.session_run.proofs.projects.list_opened.Goals as goal

pub returns-clause-listed : goal.returns-clause-listed
returns-clause-listed g c = λ source. inl (
    let facts = c.facts-facts.ensures in
    let s = from_sink g.O.Sink source (change c.args.out.now c.write_project.new.out) in record {
      tracks = c.in-Ok.tracks;
      are = λ held. same_tracks _ _ (c.in-Ok.ensures.took.step held).answers;
      printed = subst (λ (x : ProjectLines × List TrackLine). Prints s (project_text x.0 x.1))
          (λ i. (
            record {
              rate = facts.rate i;
              block_size = facts.block_size i;
              depth = facts.depth i;
              commit = c.commit_number-commit.ensures i;
              points = facts.points i;
              cursor = facts.cursor i;
            },
            c.as_slice.ensures i,
          ))
          (prints _ _ _ _ _ _ c.write_project.ensures.cause c.write_project.ensures.bytes);
      status = c.without_commits.ensures.status.0;
      opened = c.without_commits.ensures.status.1;
      first = c.without_commits.ensures.commits.0 ∙ c.commit_number-commit.ensures;
      last = c.without_commits.ensures.commits.1 ∙ c.commit_number-commit.ensures;
      record_none = c.without_commits.ensures.commits.2;
      commits = c.without_commits.ensures.commits.3;
      pieces = c.without_commits.ensures.commits.4;
    })

pub returns-in_default-clause-listed : goal.returns-in_default-clause-listed
returns-in_default-clause-listed g c =
    λ source. inr (record { printed = c.refuse.ensures.printed; done_is = c.refuse.ensures.done })
