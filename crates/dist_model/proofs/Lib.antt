-- What every step rests on: tests and orders, maps and lists, the rules in the form that the proofs go by, and single steps of a world.
pub mod Truths
pub mod Keys
pub mod Entries
pub mod Routes
pub mod Seen
pub mod Envelopes
pub mod LastSignals
pub mod Records
pub mod Rules
pub mod GivesWay
pub mod OneStep
pub mod RunMoments
pub mod Locality
pub mod Tabled
-- 1. Two processes alone: what link_core shows of them, and what a node does besides.
pub mod Pair
-- 2. One node, and each pair of its processes.
pub mod Views
pub mod EndOfProcess
pub mod Posts
pub mod Moves
pub mod LinkMoves
pub mod Takes
pub mod Calls
-- 3. The sides of one node, and the two sides of one trunk with what travels between them.
pub mod Sides
pub mod Trunks
pub mod TrunksStay
pub mod SideChanges
pub mod Primitives
pub mod NewSides
pub mod Handshake
-- 4. The world, which each event keeps good, and the laws that are drawn from that.
pub mod Pairs
pub mod Steps
pub mod Home
pub mod Signals
pub mod Arrivals
pub mod FreshSide
pub mod FirstMessage
pub mod Sweeps
pub mod ClosedSides
pub mod Run
pub mod Safety
pub mod HeldActive
pub mod WhoReacts
pub mod QuietTest
-- 5. What each part of an event keeps, the event keeps.
pub mod HandshakeParts
pub mod Parts
pub mod KeepParts
pub mod KeepEvents
pub mod KeepBearings
pub mod KeepTaken
pub mod KeepAlive
pub mod KeepSingle
pub mod KeepSteady
pub mod KeepCounted
pub mod Founded
pub mod SomeCauses
pub mod Lands
pub mod MonitorMoves
pub mod SideAges
-- 6. All that happened: calls, monitors and DOWNs of the past.
pub mod Told
pub mod HomeMonitors
pub mod Deeds
pub mod Events
pub mod Comings
pub mod WatchKnown
pub mod WatchKept
pub mod Histories
pub mod QuietMonitors
pub mod DownTerm
pub mod DownForm
-- 7. One trunk with its two states and its two lists: what stands first is due.
pub mod Due
pub mod DueWorld
pub mod DueWork
pub mod DueSteps
pub mod DueMoves
pub mod DueParts
pub mod DueArrivals
pub mod DueRun
pub mod DueLaw
pub mod DueFirst
-- 8. What travels can be sent.
pub mod Sendable
-- 9. Which processes a node keeps, and in what order its own list grows.
pub mod Peopled
pub mod Named
pub mod InOrder
-- 10. Who is connected has shown that it knows the cookie.
pub mod Shown
pub mod ShownSteps
pub mod ShownRun
pub mod Cookies
-- 11. What nodes know of creations.
pub mod Learnt
pub mod LearntAt
pub mod Known
pub mod KnownPeers
pub mod NamedParts
pub mod NamedEvents
pub mod Asks
pub mod AskedIn
pub mod ComesOnce
pub mod NamedEnds
-- Runs that are computed, step by step.
pub mod ExampleMaps
pub mod ExampleWorlds
pub mod ExampleLinks
pub mod ExampleEnds
pub mod ExampleRestart
pub mod ExampleWait
pub mod ExampleCross
pub mod ExampleLate
pub mod ExampleName
