-- The command that reads the options of a new project.
use Rattle.std.specs.Prelude.{true, codes, Some}
use Rattle.clap.specs.Simple.{App, Shape, new_app, new_rule, on_top, with_rule}
use Rattle.clap.specs.{Walk.Rule, Walk.Text, declared.builder.action.ArgAction.TheVariants.Set}

abbrev pub own : Text → Rule
own id = record (new_rule id) { long = Some id; action = Some Set }

abbrev pub base : App
base = on_top (λ (s : Shape). record s { disable_help_flag = true }) (new_app (codes "new"))

abbrev pub new_command : App
new_command = with_rule (with_rule (with_rule base (own (codes "rate"))) (own (codes "block"))) (own (codes "depth"))
