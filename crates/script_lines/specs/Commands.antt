-- The commands of scripts, by the words that they begin with.
use Rattle.std.specs.Prelude.{ℕ, List, Option, None, Some, codes, if◌then◌else◌}
use Rattle.std.specs.Str.{bytes_eq}
use Rattle.script_lines.specs.declared.command.Verb.{Verb}
use Rattle.script_lines.specs.declared.command.Verb.TheVariants.{Node, Pair, Spawn, Send, Link, Unlink, Monitor, Demonitor}
use Rattle.script_lines.specs.declared.command.Verb.TheVariants.{Trap, Exit, Die, Receive, Links, Alive, Monitors}
use Rattle.script_lines.specs.declared.command.Verb.TheVariants.{Register, Unregister, WhereIs, SendName, MonitorName, Ends, Dial, Route, Travels, Why}
use Rattle.script_lines.specs.declared.command.Verb.TheVariants.{Lose, Cut, Stop, Start, Deliver, Local, Sweep, Settle, Challenge, Show, Expect}

abbrev pub verb_named : List ℕ → Option Verb
verb_named word =
    if bytes_eq word (codes "node") then Some Node
    else if bytes_eq word (codes "pair") then Some Pair
    else if bytes_eq word (codes "spawn") then Some Spawn
    else if bytes_eq word (codes "send") then Some Send
    else if bytes_eq word (codes "link") then Some Link
    else if bytes_eq word (codes "unlink") then Some Unlink
    else if bytes_eq word (codes "monitor") then Some Monitor
    else if bytes_eq word (codes "demonitor") then Some Demonitor
    else if bytes_eq word (codes "trap") then Some Trap
    else if bytes_eq word (codes "exit") then Some Exit
    else if bytes_eq word (codes "die") then Some Die
    else if bytes_eq word (codes "receive") then Some Receive
    else if bytes_eq word (codes "links") then Some Links
    else if bytes_eq word (codes "alive") then Some Alive
    else if bytes_eq word (codes "monitors") then Some Monitors
    else if bytes_eq word (codes "register") then Some Register
    else if bytes_eq word (codes "unregister") then Some Unregister
    else if bytes_eq word (codes "whereis") then Some WhereIs
    else if bytes_eq word (codes "sendname") then Some SendName
    else if bytes_eq word (codes "monitorname") then Some MonitorName
    else if bytes_eq word (codes "ends") then Some Ends
    else if bytes_eq word (codes "dial") then Some Dial
    else if bytes_eq word (codes "route") then Some Route
    else if bytes_eq word (codes "travels") then Some Travels
    else if bytes_eq word (codes "why") then Some Why
    else if bytes_eq word (codes "lose") then Some Lose
    else if bytes_eq word (codes "cut") then Some Cut
    else if bytes_eq word (codes "stop") then Some Stop
    else if bytes_eq word (codes "start") then Some Start
    else if bytes_eq word (codes "deliver") then Some Deliver
    else if bytes_eq word (codes "local") then Some Local
    else if bytes_eq word (codes "sweep") then Some Sweep
    else if bytes_eq word (codes "settle") then Some Settle
    else if bytes_eq word (codes "challenge") then Some Challenge
    else if bytes_eq word (codes "show") then Some Show
    else if bytes_eq word (codes "expect") then Some Expect
    else None
