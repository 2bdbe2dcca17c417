mod DemoGrids
