-- One node more, and one entry more.
use Rattle.std.proofs.Common.{◌≡◌, ℕ, Bool, true, false, List, [], ◌∷◌, ◌++◌, Ok, Err, if◌then◌else◌, ap, append_assoc, append-nil, arith, length, refl, sym, ◌∙◌}
use Rattle.std.proofs.lemmas.List.Concat.{flat_map-append}
use Rattle.std.proofs.lemmas.List.{length-append, map-append}
use Rattle.std.specs.List.{AllZip, flat_map}
use Rattle.dist_books.specs.Acting.{Nodes}
use Rattle.dist_model.specs.Dialing.{has_name}
use Rattle.dist_model.specs.Names.{Name}
use Rattle.dist_model.specs.Node as model
use Rattle.dist_model.specs.Runs.{new_node, opening}
use Rattle.dist_model.specs.World.{Event, World}
use Rattle.erl_handshake.specs.declared.profile.Profile.{Profile}
use Rattle.erl_handshake.specs.declared.setup.Setup.{Setup}
use Rattle.joined_books.specs.declared.trace.Placed.{Placed}
use Rattle.node_lock.specs.Seen.{BookSeen}
use Rattle.script_lines.specs.Said.{Node}
use Rattle.script_lines.specs.declared.reason.Reason.{Reason}
use Rattle.script_repeats.proofs.Brought.{brings_then, step_in}
use Rattle.script_repeats.specs.Repeats.{IsEventAt, line_text}
use Rattle.script_repeats.specs.Steps.{Adds, HasOpened, HasRepeated, IsNode, Ran}
use Rattle.script_repeats.specs.declared.script.Repeating.{Repeating}
use Rattle.script_session.proofs.Led.{led_more}
use Rattle.script_session.specs.Pairs.{setup_of}
use Rattle.run_traces.specs.declared.trace.Trace.{Trace}
use Rattle.script_session.specs.Stands.{IsSession}
use Rattle.script_session.specs.Session.{fresh_state, Step, does, joined, says_does}

-- ---- one node more

opening_more : (nodes : Nodes) (node : Name × Setup) (cookie : List ℕ) (profile : Profile) → node.1 ≡ setup_of cookie profile
    → joined (opening nodes) node.0 cookie profile ≡ opening (nodes ++ node ∷ [])
opening_more nodes node cookie profile is =
    ap (λ (setup : Setup). record {
      names = (opening nodes).names ++ node.0 ∷ [];
      nodes = (opening nodes).nodes ++ new_node node.0 setup ∷ [];
      lists = (opening nodes).lists;
    }) (sym is)
    ∙ ap (λ (names : List Name). record {
      names = names;
      nodes = (opening nodes).nodes ++ new_node node.0 node.1 ∷ [];
      lists = (opening nodes).lists;
    }) (sym (map-append (λ (it : Name × Setup). it.0) nodes (node ∷ [])))
    ∙ ap (λ (all : List model.Node). record {
      names = (opening (nodes ++ node ∷ [])).names;
      nodes = all;
      lists = (opening nodes).lists;
    }) (sym (map-append (λ (it : Name × Setup). new_node it.0 it.1) nodes (node ∷ [])))

-- of the two ends of a choice only this one is a step
step_if : (taken : Bool) (step other : Step) → (if taken then Err Reason.NameTaken else Ok step) ≡ Ok other → other ≡ step
step_if true step other e = absurd cc
step_if false step other e = ap (step_in step) (sym e)

pub opened_more : (seed : ℕ) (nodes : Nodes) (node : Name × Setup) (line : List ℕ) (old new : Repeating) (was : HasOpened seed nodes old)
    → IsNode was.at line node → Ran was.at line old new → HasOpened seed (nodes ++ node ∷ []) new
opened_more seed nodes node line old new was is ran =
    let step : ran.step ≡ does (Node node.0 is.cookie is.profile) was.at =
    step_if (has_name node.0 was.at.stage.world.names) (does (Node node.0 is.cookie is.profile) was.at) ran.step
    (sym (ap (says_does was.at) is.says) ∙ ran.does) in
    record {
      front = was.front ++ line ∷ [];
      at = ran.step.state;
      opens = record {
        texts = was.opens.texts ++ ran.step.text ∷ [];
        led = led_more _ was.front was.opens.texts was.at line ran.step was.opens.led ran.does;
        world =
            ap (λ (it : Step). it.state.stage.world) step
            ∙ ap (λ (world : World). joined world node.0 is.cookie is.profile) was.opens.world
            ∙ opening_more nodes node is.cookie is.profile is.setup;
      };
      session = ran.session;
      text =
          ran.text
          ∙ ap (λ (t : List ℕ). t ++ line_text line) was.text
          ∙ ap (λ (t : List ℕ). flat_map line_text was.front ++ t) (sym (append-nil (line_text line)))
          ∙ sym (flat_map-append line_text was.front (line ∷ []));
      count = omega (arith, ran.count, was.count, length-append was.front (line ∷ []));
    }

-- before the first line
pub none_opened : (seed : ℕ) (it : Repeating) → IsSession it.session (fresh_state Trace.Off seed) → it.text.items ≡ [] → it.lines ≡ 0
    → HasOpened seed [] it
none_opened seed it is empty none = record {
  front = [];
  at = fresh_state Trace.Off seed;
  opens = record { texts = []; led = (refl, refl); world = refl };
  session = is;
  text = empty;
  count = none;
}

-- ---- the entries

-- none yet
pub none_repeated : (seed : ℕ) (nodes : Nodes) (books : List BookSeen) (it : Repeating) → HasOpened seed nodes it → HasRepeated seed nodes books [] it
none_repeated seed nodes books it was = record {
  is = record {
    front = was.front;
    at = was.at;
    opens = was.opens;
    behind = [];
    events = [];
    last = was.at;
    brings = (refl, refl);
    are = tt;
    within = omega (arith, it.within, was.count, length-append was.front []);
    text_is = was.text ∙ ap (λ (lines : List (List ℕ)). flat_map line_text lines) (sym (append-nil was.front));
  };
  session = was.session;
  count = omega (arith, was.count, length-append was.front []);
}

zip_more : {A B : Type 0} (R : A → B → Type 0) (xs : List A) (ys : List B) (x : A) (y : B) → AllZip R xs ys → R x y
    → AllZip R (xs ++ x ∷ []) (ys ++ y ∷ [])
zip_more R [] [] x y all one = (one, tt)
zip_more R [] (b ∷ ys) x y all one = absurd all
zip_more R (a ∷ xs) [] x y all one = absurd all
zip_more R (a ∷ xs) (b ∷ ys) x y all one = (all.0, zip_more R xs ys x y all.1 one)

-- one more
pub repeated_more : (seed : ℕ) (nodes : Nodes) (books : List BookSeen) (entries : List Placed) (placed : Placed) (event : Event)
    (old new : Repeating) (was : HasRepeated seed nodes books entries old) → IsEventAt nodes books placed event
    → Adds was.is.last (event ∷ []) old new → HasRepeated seed nodes books (entries ++ placed ∷ []) new
repeated_more seed nodes books entries placed event old new was at adds =
    let more : new.lines ≡ length (was.is.front ++ (was.is.behind ++ adds.lines)) =
    omega (
      arith,
      adds.count,
      was.count,
      length-append was.is.front was.is.behind,
      length-append was.is.behind adds.lines,
      length-append was.is.front (was.is.behind ++ adds.lines),
    ) in record {
      is = record {
        front = was.is.front;
        at = was.is.at;
        opens = was.is.opens;
        behind = was.is.behind ++ adds.lines;
        events = was.is.events ++ event ∷ [];
        last = adds.next;
        brings = brings_then was.is.at was.is.behind was.is.events was.is.last adds.lines (event ∷ []) adds.next was.is.brings adds.brings;
        are = zip_more (IsEventAt nodes books) entries was.is.events placed event was.is.are at;
        text_is =
            adds.text
            ∙ ap (λ (t : List ℕ). t ++ flat_map line_text adds.lines) was.is.text_is
            ∙ sym (flat_map-append line_text (was.is.front ++ was.is.behind) adds.lines)
            ∙ ap (λ (lines : List (List ℕ)). flat_map line_text lines) (append_assoc was.is.front was.is.behind adds.lines);
        within = omega (arith, new.within, more);
      };
      session = adds.session;
      count = more;
    }
