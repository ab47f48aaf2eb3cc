-- What the choices leave.
use Rattle.memory_disk.proofs.Common.{ℕ, sym, ◌∙◌, ap, subst, length, image_since, IsImage, image_of, Ram, Files}
use Rattle.memory_disk.proofs.LeftFiles.{image_0, image_1, image_is_image}
use Rattle.memory_disk.proofs.ram.RamStore.image.Goals as goal

pub returns-clause-all : goal.returns-clause-all
returns-clause-all c = λ zero.
    c.in_ok-log.ensures.reads ∙ ap (λ (r : Ram). image_of c.args.choice r.log.history) c.self.view_is
    ∙ ap (λ (k : ℕ). image_of k c.args.self.now.log.history) zero ∙ image_0 c.args.self.now.log.history

pub returns-clause-nothing : goal.returns-clause-nothing
returns-clause-nothing c = λ one.
    c.in_ok-log.ensures.reads ∙ ap (λ (r : Ram). image_of c.args.choice r.log.history) c.self.view_is
    ∙ ap (λ (k : ℕ). image_of k c.args.self.now.log.history) one ∙ image_1 c.args.self.now.log.history

pub returns-clause-left : goal.returns-clause-left
returns-clause-left c = subst (λ (f : Files). IsImage c.args.self.now.log.history f)
    (sym (c.in_ok-log.ensures.reads ∙ ap (λ (r : Ram). image_of c.args.choice r.log.history) c.self.view_is))
    (image_is_image c.args.choice c.args.self.now.log.history)

pub returns-clause-may_be_left : goal.returns-clause-may_be_left
returns-clause-may_be_left c =
    image_since c.args.self.now.log.history (length c.args.self.now.log.history) _ (returns-clause-left c)
