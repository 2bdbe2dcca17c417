mod CleanMeshes
