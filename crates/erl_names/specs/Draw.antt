-- What a node numbers anew in each incarnation: its processes, its references and the unlinks of its
-- links. (ERTS User's Guide, External Term Format, NEW_PID_EXT and NEWER_REFERENCE_EXT; Distribution
-- Protocol, New Link Protocol.)

pub data Draw : Type 0 where
  Pid : Draw
  Reference : Draw
  UnlinkId : Draw
