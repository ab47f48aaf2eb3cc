-- What words ask for, by what was read of them.
use Rattle.session_run.proofs.Common.{◌≡◌, sym, subst, Option, Words, change, Done, DoesWords, World, Handed, handed}
use Rattle.desk_session.specs.declared.devices.Devices.{Devices}
use Rattle.edit_ports.specs.declared.sink.Sink as sink
use Rattle.edit_ports.specs.declared.source.Source as source

pub asked : {R D V M P : Type 0} (w : World R D V M P) (said read : Option Words) (h : Handed D V M P) (done : Done D)
    → said ≡ read → DoesWords w read h done → DoesWords w said h done
asked w said read h done same does = subst (λ (words : Option Words). DoesWords w words h done) (sym same) does

-- what devices are handed of which only the sink was used
abbrev pub idle : {D V A O M P G : Type 0} → source.Ghosts A → sink.Ghosts O → Devices V A O M P G → D → O
    → Handed D V M P
idle sources sinks d store out = handed sources sinks (change d.streams.script.now d.streams.script.now)
    (change d.streams.out.now out) store (change d.vault.now d.vault.now) (change d.mic.now d.mic.now)
    (change d.speaker.now d.speaker.now)
