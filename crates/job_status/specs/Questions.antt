-- What a status port is asked. HTTP/1.1: a line with a method and a path, fields, and an empty line. The paths are this
-- project's own.
use Rattle.std.specs.Prelude.{ℕ, List, ◌++◌, codes}
use Rattle.job_status.specs.declared.asking.Stations.{Stations}
use Rattle.job_status.specs.declared.asking.Stations.TheVariants.{All, Silent}

-- the path of the tables of some stations
abbrev pub path_of : Stations → List ℕ
path_of All = codes "/plain"
path_of Silent = codes "/plain?state=silent"

abbrev pub question_of : Stations → List ℕ
question_of stations =
    codes "GET " ++ path_of stations ++ codes " HTTP/1.1\r\nHost: localhost\r\nConnection: close\r\n\r\n"
